-- What stands under the lock keeps the history, and what a crash leaves of it has the book.
use Rattle.std.proofs.Common.{◌≡◌, ◌∙◌, ◌+◌, ◌-◌, ◌++◌, ◌∷◌, [], ℕ, List, length, take, slice_get, Option, Some, None, Result, Ok, Err, refl, sym, ap, subst, arith}
use Rattle.std.proofs.Math.Seq.{take-append-add}
use Rattle.std.specs.Prelude.{OnErr, OnOk}
use mathlib.Core.List.{IsPrefix}
use mathlib.Core.Logic.{∥∥₁_map}
use Rattle.mt_base.specs.declared.refusal.Refusal.{Refusal}
use Rattle.mt_base.specs.declared.refusal.Refusal.TheVariants.{DeviceFailed}
use Rattle.mt_disk.specs.declared.device.Device.{Ghosts}
use Rattle.mt_core.specs.Booked.{txns_of}
use Rattle.mt_core.specs.Consistent.{session_in}
use Rattle.mt_core.specs.declared.calls.Called.{Called}
use Rattle.mt_core.specs.declared.calls.Called.TheVariants as call
use Rattle.mt_live.specs.Laws.{in_turn}
use Rattle.mt_live.specs.Machine.{State}
use Rattle.mt_mark.specs.Legal.{IsLegal}
use Rattle.mt_mark.specs.Rule.{dones}
use Rattle.mt_mark.specs.declared.view.Entry.{Entry}
use Rattle.mt_mark.specs.declared.view.View.{View}
use Rattle.mt_mark.proofs.Fronts.{prefix_self, prefix_trans}
use Rattle.mt_model.specs.History.{after}
use Rattle.mt_model.specs.Model as model
use Rattle.mt_model.specs.Views.{base_of}
use Rattle.mt_model.specs.declared.history.Committed.{Committed}
use Rattle.mt_model.specs.declared.operations.Op.{Op}
use Rattle.mt_model.specs.declared.tables.Base.{Base}
use Rattle.mt_replay.specs.Stands.{CanRestart}
use Rattle.mt_restart.specs.Standings.{IsFoundAfter, device_at}
use Rattle.mt_restart.specs.declared.standing.Standing.{Standing}
use Rattle.mt_restart.specs.declared.standing.Standing.TheVariants.{Stands, Ended}
use Rattle.mt_txn.specs.Causes.{IsRefusedAtOnce}
use Rattle.mt_txn.specs.Events.{HasCalled, HasForced}
use Rattle.mt_txn.specs.Restarted.{all_commits, FindsCommits}
use Rattle.mt_txn.specs.Seen.{KernelSeen, ShowsSeen, seen_of}
use Rattle.mt_txn.specs.Shown.{FailsForGood, HidesNoFault, Shows, StaysRestarting, is_failed}
use Rattle.mt_txn.specs.declared.answers.KernelForced.{KernelForced}
use Rattle.mt_txn.specs.declared.kernel.Kernel.{Kernel}
use Rattle.mt_locked.specs.Asked.{CallsTo, IsFaultless, ReportsEachFault}
use Rattle.mt_locked.specs.Began.{BeganOn}
use Rattle.mt_locked.specs.Seen.{IsAskedOf, LockedSeen, SameBeside}
use Rattle.mt_locked.specs.declared.locked.Due.{Due}
use Rattle.mt_locked.specs.Standings.{HasBook, IsDeviceSeen, KeepsHistory, LeavesBook, book_in, kernel_in, left_in, seen_in}
use Rattle.mt_locked.proofs.Books.{dones-length, grown, none_behind}
use Rattle.mt_locked.proofs.Idle.{not_true}
use Rattle.mt_locked.proofs.Keeping.{Goes, forced_began, forced_grows, legal_book, same_book, still_began}

-- a fact of a refused call that follows from another
pub on_err_led : {T : Type 0} {P Q : Type 0} → (r : Result T Refusal) → (P → Q) → OnErr r P → OnErr r Q
on_err_led (Ok x) leads did = did
on_err_led (Err why) leads did = leads did

-- a fact of an answered one
pub on_ok_led : {T : Type 0} {P Q : Type 0} → (r : Result T Refusal) → (P → Q) → OnOk r P → OnOk r Q
on_ok_led (Ok x) leads did = leads did
on_ok_led (Err why) leads did = did

-- and of one that is either
pub on_either : {T : Type 0} {P Q R : Type 0} → (r : Result T Refusal) → (P → R) → (Q → R) → OnOk r P → OnErr r Q → R
on_either (Ok x) answered refused did kept = answered did
on_either (Err why) answered refused did kept = refused kept

module _ {D : Type 0} {g : Ghosts D} where
  -- ---- a kernel that stands

  pub stands_on : (b : Base) (h : List Committed) (s : Standing D g) (k : Kernel D g) → s ≡ Stands k → KeepsHistory b h s → BeganOn b k × IsPrefix h k.core.book.items
  stands_on b h s k is keeps = subst (KeepsHistory b h) is keeps

  -- the book begins with the history
  pub front_of : (b : Base) (h : List Committed) (s : Standing D g) → KeepsHistory b h s → IsPrefix h (book_in s h)
  front_of b h (Stands k) keeps = keeps.1
  front_of b h (Ended device) keeps = prefix_self h

  -- and it is legal
  pub legal_in : (b : Base) (k : Kernel D g) (s : Standing D g) (h : List Committed) → s ≡ Stands k → KeepsHistory b h s → IsLegal b (book_in s h)
  legal_in b k s h is keeps = subst (λ (x : Standing D g). IsLegal b (book_in x h)) (sym is) (legal_book b k (stands_on b h s k is keeps).0)

  -- the history goes on by the book's next entry, which is there only if a kernel stands
  pub entered_on : (b : Base) (list : List Entry) (e : Entry) (at : ℕ) (s : Standing D g) → at ≡ length list → slice_get (book_in s (dones list)) at ≡ Some e.done → KeepsHistory b (dones list) s
      → KeepsHistory b (dones (list ++ e ∷ [])) s × (book_in s (dones (list ++ e ∷ [])) ≡ book_in s (dones list))
  entered_on b list e at (Stands k) is there keeps =
      ((keeps.0, grown list k.core.book.items e keeps.1 (ap (λ n. slice_get k.core.book.items n) (dones-length list ∙ sym is) ∙ there)), refl)
  entered_on b list e at (Ended device) is there keeps = absurd (none_behind (dones list) list at e.done refl is there)

  -- after a call that leaves its book the history is kept, and the book is the same
  pub goes_on : (b : Base) (list : List Entry) (s : Standing D g) (k n : Kernel D g) → s ≡ Stands k → ((z : State) → Shows (base_of b) z k → Goes b z n) → StaysRestarting k n
      → KeepsHistory b (dones list) s → KeepsHistory b (dones list) (Stands n) × (n.core.book.items ≡ book_in s (dones list))
  goes_on b list s k n is go again keeps =
      let (began, front) = stands_on b (dones list) s k is keeps in
      let same = same_book b k n go began in (
        (still_began b k n go again began, subst (IsPrefix (dones list)) (sym same) front),
        same ∙ ap (λ (x : Standing D g). book_in x (dones list)) (sym is),
      )

  -- after a step of a force the history is kept, and the book has grown at its end
  pub forces_on : (b : Base) (h : List Committed) (s : Standing D g) (k n : Kernel D g) (r : Result KernelForced Refusal) → s ≡ Stands k
      → ((z : State) → Shows (base_of b) z k → HasForced (base_of b) z r n) → StaysRestarting k n
      → KeepsHistory b h s → KeepsHistory b h (Stands n) × IsPrefix (book_in s h) n.core.book.items
  forces_on b h s k n r is did again keeps =
      let (began, front) = stands_on b h s k is keeps in
      let more = forced_grows b k n r did began in (
        (forced_began b k n r did again began, prefix_trans h k.core.book.items n.core.book.items front more),
        subst (λ (x : Standing D g). IsPrefix (book_in x h) n.core.book.items) (sym is) more,
      )

  -- ---- what a call does

  -- what is seen of the kernel that stands, or that none does
  pub kernel_is : {holding : ℕ} {due : Due} (s : Standing D g) (k : Kernel D g) (v : View) (old : LockedSeen D) → s ≡ Stands k → seen_in s v holding due ≡ old → Some (seen_of k) ≡ old.kernel
  kernel_is s k v old is there = ap (λ (x : Standing D g). kernel_in x) (sym is) ∙ ap (λ (l : LockedSeen D). l.kernel) there

  pub none_is : {holding : ℕ} {due : Due} (s : Standing D g) (device : D) (v : View) (old : LockedSeen D) → s ≡ Ended device → seen_in s v holding due ≡ old → None ≡ old.kernel
  none_is s device v old is there = ap (λ (x : Standing D g). kernel_in x) (sym is) ∙ ap (λ (l : LockedSeen D). l.kernel) there

  -- the kernel that stood was asked, and did this
  pub asked : {T : Type 0} {holding : ℕ} {due : Due} → (s : Standing D g) (k n : Kernel D g) (v : View) (old : LockedSeen D) (r : Result T Refusal) (Did : KernelSeen D → KernelSeen D → Type 0)
      → s ≡ Stands k → seen_in s v holding due ≡ old → Did (seen_of k) (seen_of n) → IsAskedOf old.kernel r (Some (seen_of n)) Did
  asked s k n v old r Did is there did =
      let was : Some (seen_of k) ≡ old.kernel = ap (λ (x : Standing D g). kernel_in x) (sym is) ∙ ap (λ (l : LockedSeen D). l.kernel) there in
      subst (λ (o : Option (KernelSeen D)). IsAskedOf o r (Some (seen_of n)) Did) was (seen_of n, refl, did)

  -- a kernel that refuses a call at once is seen to do so
  pub at_once : {T : Type 0} → (cause : Option Refusal) (k n : Kernel D g) (r : Result T Refusal) → IsRefusedAtOnce cause k r n → IsRefusedAtOnce cause (seen_of k) r (seen_of n)
  at_once cause k n r early why is = ((early why is).0, ap (λ (x : Kernel D g). seen_of x) (early why is).1)

  -- what a call left is seen so
  pub calls_to : (first : model.Base) (s : State) (t : ℕ) (op : Op) (r : Result Called Refusal) (n : Kernel D g) → HasCalled first s t op r n
      → CallsTo (λ z. ShowsSeen g first z (seen_of n)) s t op r
  calls_to first s t op (Ok call.Started) n did = did
  calls_to first s t op (Ok (call.Wait holder)) n did = did
  calls_to first s t op (Err why) n did = did

  -- how it reports the device's faults
  faultless : {T : Type 0} → (k n : Kernel D g) (r : Result T Refusal) → (r ≡ Err DeviceFailed → ⊥) → FailsForGood k r n → HidesNoFault k r n → IsFaultless g (seen_of k) (seen_of n)
  faultless k n r other fails quiet = record {
    before = not_true (is_failed k) (λ bad. other (fails.0 bad).0);
    unfailed = not_true n.failed (λ bad. other (fails.2 bad));
    faults = quiet other;
  }

  pub reports : {T : Type 0} → (k n : Kernel D g) (r : Result T Refusal) → FailsForGood k r n → HidesNoFault k r n → ReportsEachFault g (seen_of k) r (seen_of n)
  reports k n (Err DeviceFailed) fails quiet = (fails.1 refl, λ bad. ap (λ (x : Kernel D g). seen_of x) (fails.0 bad).1)
  reports {T} k n (Err why) fails quiet = faultless k n (Err why) (λ is. absurd (cc)) fails quiet
  reports {T} k n (Ok x) fails quiet = faultless k n (Ok x) (λ is. absurd (cc)) fails quiet

  -- none stood
  pub unasked : {T : Type 0} {holding : ℕ} {due : Due} → (s : Standing D g) (device : D) (v : View) (old : LockedSeen D) (r : Result T Refusal) (Did : KernelSeen D → KernelSeen D → Type 0)
      → s ≡ Ended device → seen_in s v holding due ≡ old → r ≡ Err DeviceFailed → IsAskedOf old.kernel r (kernel_in s) Did
  unasked s device v old r Did is there refused =
      let none : kernel_in s ≡ None = ap (λ (x : Standing D g). kernel_in x) is in
      let was : None ≡ old.kernel = sym none ∙ ap (λ (l : LockedSeen D). l.kernel) there in
      subst (λ (o : Option (KernelSeen D)). IsAskedOf o r (kernel_in s) Did) was (refused, none)

  -- what a call of the kernel that stood left beside it
  pub beside_on : {holding : ℕ} {due : Due} (s : Standing D g) (k n : Kernel D g) (v : View) (old : LockedSeen D) → s ≡ Stands k → seen_in s v holding due ≡ old → SameBeside old (seen_in (Stands n) v holding due)
  beside_on {holding} {due} s k n v old is there =
      subst (λ (l : LockedSeen D). SameBeside l (seen_in (Stands n) v holding due)) there ((refl, refl, refl), sym (ap (λ (x : Standing D g). left_in x) is))

  -- the device of what stands
  pub device_seen : {holding : ℕ} {due : Due} (s : Standing D g) (v : View) (old : LockedSeen D) (device : D) → device ≡ device_at s → seen_in s v holding due ≡ old → IsDeviceSeen old device
  device_seen (Stands k) v old device is there = subst (λ (l : LockedSeen D). IsDeviceSeen l device) there is
  device_seen (Ended alone) v old device is there = subst (λ (l : LockedSeen D). IsDeviceSeen l device) there (ap (λ (d : D). Some d) (sym is))

  -- ---- what a crash leaves

  -- a restart finds what the book leads to, or the book and some of the commits under way
  pub found_with : (b : Base) (k : Kernel D g) (c : List ℕ) → ∥ FindsCommits k.relations k.counters (base_of b) k.core c ∥₁ → ∥ HasBook b k.core.book.items c ∥₁
  found_with b k c finds = ∥∥₁_map finds (λ f.
      let book = k.core.book.items in
      let under_way = in_turn (session_in k.core.live.members) (txns_of k.core.commits.items) k.core.live.standing in
      let over = f.count - length book in
      let booked = f.acknowledged in
      let count : length book + over ≡ f.count = omega (arith, booked) in
      let is : take f.count (all_commits k.core) ≡ book ++ take over under_way =
      subst (λ (i : ℕ). take i (all_commits k.core) ≡ book ++ take over under_way) count (take-append-add book under_way over) in
      record {
        relations = k.relations;
        counters = k.counters;
        further = take over under_way;
        found = subst (CanRestart k.relations k.counters c) (f.is ∙ ap (after (base_of b)) is) f.found;
      })

  -- and so it does of the device of what stands
  pub leaves_book : (b : Base) (h : List Committed) (s : Standing D g) (device : D) → device ≡ device_at s → IsFoundAfter s device → KeepsHistory b h s → LeavesBook g b (book_in s h) device
  leaves_book b h (Stands k) device is finds keeps = λ c leaves. found_with b k c (finds (base_of b) c keeps.0.1 leaves)
  leaves_book b h (Ended alone) device is finds keeps = subst (LeavesBook g b h) (sym is) keeps
