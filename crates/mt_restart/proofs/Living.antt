-- A kernel in which nobody lives.
use Rattle.std.proofs.Common.{◌≡◌, ◌∙◌, ◌==◌, ◌≤◌, ℕ, List, [], ◌∷◌, length, take, Bool, true, cond, Some, None, refl, sym, ap, subst, arith}
use Rattle.std.proofs.lemmas.List.{take_all}
use Rattle.std.proofs.Props.{props}
use Rattle.std.proofs.lemmas.Bool.Decides.{Decides-eqb}
use Rattle.std.specs.Option.{option_map}
use mathlib.Core.Logic.{∥∥₁_elim, ∥∥₁_map}
use Rattle.mt_disk.specs.declared.device.Device.{Ghosts}
use Rattle.mt_live.specs.Lives.{member_of}
use Rattle.mt_live.specs.Machine.{State, start}
use Rattle.mt_live.specs.Members.{Member}
use Rattle.mt_model.specs.History.{after}
use Rattle.mt_model.specs.Model.{Base}
use Rattle.mt_model.specs.declared.history.Committed.{Committed}
use Rattle.mt_replay.specs.Stands.{CanRestart}
use Rattle.mt_restart.specs.Resumed.{IsOpened}
use Rattle.mt_txn.proofs.GoingOn.{all_booked}
use Rattle.mt_txn.specs.Restarted.{all_commits, FindsCommits, FindsMeanwhile}
use Rattle.mt_txn.specs.Shown.{Restarts, Shows}
use Rattle.mt_txn.specs.Turned.{HasNobody}
use Rattle.mt_txn.specs.declared.kernel.Kernel.{Kernel}

pub no_member : (ms : List Member) → ((t : ℕ) → option_map (λ (m : Member). m.session) (member_of ms t) ≡ None) → length ms ≡ 0
no_member [] none = refl
no_member (m ∷ ms) none =
    let own : (m.number == m.number) ≡ true = (Decides-eqb m.number m.number).1 refl in
    let lives : Some m.session ≡ None = subst (λ (b : Bool). option_map (λ (x : Member). x.session) (cond b (Some m) (member_of ms m.number)) ≡ None) own (none m.number) in
    absurd cc

empty : (ms : List Member) → length ms ≡ 0 → ms ≡ []
empty [] is = refl
empty (m ∷ ms) is = absurd cc

module _ {D : Type 0} {g : Ghosts D} where
  -- no transaction lives in a kernel that nothing has happened to
  pub nobody_counts : (first : Base) (k : Kernel D g) → Shows first (start first) k → length k.core.live.members ≡ 0
  nobody_counts first k shows = ∥∥₁_elim shows (hlevel props) (λ (origin, base, is, x). no_member k.core.live.members (λ t. sym (ap (λ (s : State). s.sessions t) x.state)))

  pub nobody : (first : Base) (k : Kernel D g) → Shows first (start first) k → k.core.live.members ≡ []
  nobody first k shows = empty k.core.live.members (nobody_counts first k shows)

  -- where nobody lives, all commits of a kernel are those of its book
  pub stands_book : (b : Base) (n : Kernel D g) (c : List ℕ) → HasNobody n → Restarts b n → ∥ FindsCommits n.relations n.counters b n.core c ∥₁
      → ∥ CanRestart n.relations n.counters c (after b n.core.book.items) ∥₁
  stands_book b n c nobody restarts finds = ∥∥₁_elim (all_booked g n.core n.relations n.counters b nobody restarts) (hlevel props) (λ all.
      ∥∥₁_map finds (λ f.
      let size : length (all_commits n.core) ≡ length n.core.book.items = ap (λ (cs : List Committed). length cs) all in
      let booked = f.acknowledged in
      let whole : take f.count (all_commits n.core) ≡ n.core.book.items = take_all f.count (all_commits n.core) (omega (arith, size, booked)) ∙ all in
      subst (CanRestart n.relations n.counters c) (f.is ∙ ap (after b) whole) f.found))

  -- a kernel that was opened on a base is found there until its device is this one, if nothing has happened to it
  pub found_on : (relations counters : ℕ) (b : Base) (k : Kernel D g) (device : D) → IsOpened relations counters b k → k.core.book.items ≡ []
      → ((t : ℕ) (c : List ℕ) → t ≤ g.moment device → g.may_leave device c → g.left_since device t c)
      → ((first : Base) → Restarts first k → FindsMeanwhile g k.relations k.counters first k.core device)
      → (c : List ℕ) → g.may_leave device c → ∥ CanRestart relations counters c b ∥₁
  found_on relations counters b k device opened none counts found c leaves =
      let f = found b opened.restarts in
      let finds = f.each c (counts (g.moment k.core.operations.store.device) c f.later leaves) in
      let stands = stands_book b k c (nobody_counts b k opened.shows) opened.restarts finds in
      subst (λ (X : Type 0). X) (λ i. ∥ CanRestart (opened.relations_are i) (opened.counters_are i) c (after b (none i)) ∥₁) stands
