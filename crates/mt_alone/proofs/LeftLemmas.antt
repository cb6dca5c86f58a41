-- What a device represents after the commits of a kernel, or of a play.
use Rattle.std.proofs.Common.{◌≡◌, ◌≤◌, ◌<◌, ◌+◌, ◌-◌, ◌++◌, ◌∙◌, [], inl, inr, ℕ, List, Result, length, take, None, sym, ap, subst, arith, append-nil}
use Rattle.std.proofs.Math.Seq.{take-append-add}
use Rattle.std.proofs.Props.{props}
use mathlib.Core.Logic.{∥∥₁_elim, ∥∥₁_map}
use Rattle.mt_base.specs.declared.refusal.Refusal.{Refusal}
use Rattle.mt_disk.specs.declared.device.Device.{Ghosts}
use Rattle.mt_core.specs.Booked.{txns_of}
use Rattle.mt_core.specs.Consistent.{session_in}
use Rattle.mt_live.specs.Laws.{in_turn}
use Rattle.mt_live.specs.Machine.{State}
use Rattle.mt_model.specs.History.{after}
use Rattle.mt_model.specs.Model.{Base}
use Rattle.mt_model.specs.declared.history.Committed.{Committed}
use Rattle.mt_replay.specs.Stands.{CanRestart}
use Rattle.mt_restart.proofs.EarlyCauses.{may_nobody}
use Rattle.mt_restart.proofs.Standings.{ended_of, stands_over}
use Rattle.mt_restart.specs.Rotated.{Rotates, early_cause}
use Rattle.mt_restart.specs.Standings.{IsFoundAfter, device_at}
use Rattle.mt_restart.specs.declared.standing.Standing.{Standing}
use Rattle.mt_restart.specs.declared.standing.Standing.TheVariants.{Stands, Ended}
use Rattle.mt_restart.proofs.Living.{stands_book}
use Rattle.mt_alone.proofs.TurnLemmas.{left_of}
use Rattle.mt_alone.specs.Driven.{IsLeft}
use Rattle.mt_alone.specs.Plays.{Play, put_off}
use Rattle.mt_alone.specs.Runs.{IsLeftFor}
use Rattle.mt_alone.specs.Turnovers.{IsDeviceLeft, IsLeftFrom, IsTurned, StandsForMore}
use Rattle.mt_alone.specs.declared.alone.RunFault.{RunFault}
use Rattle.mt_alone.specs.declared.alone.RunFault.TheVariants as fault
use Rattle.mt_txn.specs.Restarted.{all_commits, FindsCommits, FindsMeanwhile}
use Rattle.mt_txn.specs.Shown.{IsFoundIn, Restarts}
use Rattle.mt_txn.specs.declared.kernel.Kernel.{Kernel}

-- bytes that represent what all of some commits lead to represent these and no further ones
no_further : (relations counters : ℕ) (b : Base) (book : List Committed) (c : List ℕ) → ∥ CanRestart relations counters c (after b book) ∥₁
    → ∥ ((further : List Committed) × CanRestart relations counters c (after b (book ++ further))) ∥₁
no_further relations counters b book c stands = ∥∥₁_map stands (λ found. ([], subst (λ (all : List Committed). CanRestart relations counters c (after b all)) (sym (append-nil book)) found))

-- a device alone represents the play's commits
ended_stands : {D : Type 0} (g : Ghosts D) (relations counters : ℕ) (q : Play) (device : D) (why : RunFault) → IsDeviceLeft g relations counters why device q → StandsForMore g relations counters q device
ended_stands g relations counters q device fault.Output x c leaves = no_further relations counters q.first q.book c (x.1 c leaves)
ended_stands g relations counters q device (fault.Refused why) x c leaves = no_further relations counters q.first q.book c (x.2 c leaves)

module _ {D : Type 0} {g : Ghosts D} where
  -- what a restart finds is what the book leads to, and perhaps some of the commits under way after it
  pub stands_more : (b : Base) (n : Kernel D g) (c : List ℕ) → ∥ FindsCommits n.relations n.counters b n.core c ∥₁
      → ∥ ((further : List Committed) × CanRestart n.relations n.counters c (after b (n.core.book.items ++ further))) ∥₁
  stands_more b n c finds = ∥∥₁_map finds (λ f.
      let book = n.core.book.items in
      let under_way = in_turn (session_in n.core.live.members) (txns_of n.core.commits.items) n.core.live.standing in
      let over = f.count - length book in
      let booked = f.acknowledged in
      let count : length book + over ≡ f.count = omega (arith, booked) in
      let is : take f.count (all_commits n.core) ≡ book ++ take over under_way =
      subst (λ (i : ℕ). take i (all_commits n.core) ≡ book ++ take over under_way) count (take-append-add book under_way over) in
      (take over under_way, subst (CanRestart n.relations n.counters c) (f.is ∙ ap (after b) is) f.found))

  -- whatever came of a log that was to be turned over
  pub turned_stands : (k : Kernel D g) (device : D) → early_cause k ≡ None
      → ((t : ℕ) (c : List ℕ) → t ≤ g.moment device → g.may_leave device c → g.left_since device t c)
      → ((first : Base) → Restarts first k → FindsMeanwhile g k.relations k.counters first k.core device)
      → (first : Base) → Restarts first k → (c : List ℕ) → g.may_leave device c → ∥ CanRestart k.relations k.counters c (after first k.core.book.items) ∥₁
  turned_stands k device early counts found first restarts c leaves =
      let f = found first restarts in
      stands_book first k c (may_nobody k early) restarts (f.each c (counts (g.moment k.core.operations.store.device) c f.later leaves))

  pub turned_over : (k : Kernel D g) (s : Standing D g) (r : Result (Unit {0}) Refusal)
      → ((t : ℕ) (c : List ℕ) → t ≤ g.moment (device_at s) → g.may_leave (device_at s) c → g.left_since (device_at s) t c)
      → Rotates k s r
      → ((first : Base) → Restarts first k → FindsMeanwhile g k.relations k.counters first k.core (device_at s))
      → IsTurned k s
  turned_over k (Stands n) r counts rotated found = stands_over k n r rotated
  turned_over k (Ended device) r counts rotated found =
      let ended = ended_of k device r rotated in
      record {
        failed = let more = ended.failed in omega (arith, more);
        stands = turned_stands k device ended.may counts found;
      }

  -- ---- after a play

  -- the book is the play's
  pub book_of : (q : Play) (n : Kernel D g) → IsLeft q n → ∥ (n.core.book.items ≡ q.book) ∥₁
  book_of q n left = ∥∥₁_elim left (hlevel props) (λ (first, s, shows, played).
      ∥∥₁_map shows (λ (origin, base, at, x). sym (ap (λ (z : State). z.book) x.state) ∙ played.book))

  module _ where
    book_for : (q : Play) (n : Kernel D g) (why : RunFault) → IsLeftFor q n why → ∥ (n.core.book.items ≡ q.book) ∥₁
    book_for q n fault.Output (inl beside) = book_of (put_off q) n (left_of (put_off q) None n beside)
    book_for q n fault.Output (inr left) = book_of q n left.0
    book_for q n (fault.Refused why) left = book_of q n left.0

    kept_stands : (relations counters : ℕ) (q : Play) (n : Kernel D g) (why : RunFault) (device : D) → IsFoundIn n device → IsLeftFrom relations counters why (Stands n) q
        → StandsForMore g relations counters q device
    kept_stands relations counters q n why device finds (left, for) c leaves = ∥∥₁_elim (book_for q n why left) (hlevel props) (λ book.
        subst (λ (X : Type 0). X) (λ i. ∥ ((further : List Committed) × CanRestart (for.relations_are i) (for.counters_are i) c (after q.first (book i ++ further))) ∥₁)
        (stands_more q.first n c (finds q.first c for.restarts leaves)))

    -- and so does the device of what is left
    pub left_stands : (relations counters : ℕ) (q : Play) (s : Standing D g) (why : RunFault) (device : D) → device ≡ device_at s → IsFoundAfter s device → IsLeftFrom relations counters why s q
        → StandsForMore g relations counters q device
    left_stands relations counters q (Stands n) why device is finds left = kept_stands relations counters q n why device finds left
    left_stands relations counters q (Ended alone) why device is finds left = subst (StandsForMore g relations counters q) (sym is) (ended_stands g relations counters q alone why left)
