-- Each call of a kernel leaves it on the base that it began on, and only a force step makes its book grow.
use Rattle.std.proofs.Common.{◌≡◌, ℕ, Bool, true, false, List, [], ◌∷◌, Option, Some, None, Result, Ok, Err, refl, sym, ap, ◌∙◌, subst}
use Rattle.std.proofs.Props.{props}
use Rattle.std.specs.Prelude.{OnOk, OnErr, if◌then◌else◌}
use mathlib.Core.List.{IsPrefix}
use mathlib.Core.Logic.{∥∥₁_elim, ∥∥₁_map}
use Rattle.mt_base.specs.declared.refusal.Refusal.{Refusal}
use Rattle.mt_base.specs.declared.refusal.Refusal.TheVariants as refusal
use Rattle.mt_disk.specs.declared.device.Device.{Ghosts}
use Rattle.mt_core.specs.Booked.{booked_each, session_at}
use Rattle.mt_core.specs.Runs.{is_returning, state_in}
use Rattle.mt_core.specs.declared.calls.Called.{Called}
use Rattle.mt_core.specs.declared.calls.Called.TheVariants as call
use Rattle.mt_live.specs.Machine.{State, begun, called, ended, gone, booked, settled}
use Rattle.mt_live.specs.declared.transactions.TxnState.{TxnState}
use Rattle.mt_live.specs.declared.transactions.TxnState.TheVariants.{Open, Committing, Aborting, Returning}
use Rattle.mt_mark.proofs.Fronts.{prefix_self, prefix_trans}
use Rattle.mt_model.specs.History.{IsLegal}
use Rattle.mt_model.specs.Model as model
use Rattle.mt_model.specs.Views.{base_of}
use Rattle.mt_model.specs.declared.history.Committed.{Committed}
use Rattle.mt_model.specs.declared.operations.Op.{Op}
use Rattle.mt_model.specs.declared.tables.Base.{Base}
use Rattle.mt_txn.proofs.Living.{idle_of}
use Rattle.mt_txn.proofs.Showing.{legal_of, parts_stay}
use Rattle.mt_txn.specs.Causes.{IsRefusedAtOnce, first_of, is_busy, is_open, return_cause, step_cause, unless}
use Rattle.mt_txn.specs.Events.{HasAborted, HasCalled, HasForced, HasReturned, HasStepped, IsBack, IsReturn}
use Rattle.mt_txn.specs.Events.IsBack.{stands, drops, undoes}
use Rattle.mt_txn.specs.Events.IsReturn.{stays as stays_so, returns}
use Rattle.mt_txn.specs.Shown.{Restarts, SameSchema, Shows, Stays, StaysRestarting, is_failed}
use Rattle.mt_txn.specs.declared.answers.AbortStepped.{AbortStepped}
use Rattle.mt_txn.specs.declared.answers.AbortStepped.TheVariants as abort
use Rattle.mt_txn.specs.declared.answers.KernelForced.{KernelForced}
use Rattle.mt_txn.specs.declared.answers.KernelForced.TheVariants as forced
use Rattle.mt_txn.specs.declared.answers.Stepped.{Stepped}
use Rattle.mt_txn.specs.declared.answers.Stepped.TheVariants as step
use Rattle.mt_txn.specs.declared.kernel.Kernel.{Kernel}
use Rattle.mt_locked.specs.Began.{BeganOn}
use Rattle.mt_locked.proofs.Sets.{Books-set, IsLegal-prop, begins}

-- ---- of states

-- a step is not refused only of an open transaction that runs an operation
both_hold : (failed opened busy : Bool) → first_of (if failed then Some refusal.DeviceFailed else unless opened refusal.Stranger) (unless busy refusal.Stranger) ≡ None → (opened ≡ true) × (busy ≡ true)
both_hold true opened busy none = absurd cc
both_hold false false busy none = absurd cc
both_hold false true false none = absurd cc
both_hold false true true none = (refl, refl)

open_state : (o : Option TxnState) → is_open o ≡ true → o ≡ Some Open
open_state None is = absurd cc
open_state (Some Open) is = refl
open_state (Some Committing) is = absurd cc
open_state (Some Aborting) is = absurd cc
open_state (Some (Returning n)) is = absurd cc

back_book : (t : ℕ) (s z : State) → IsBack s t z → z.book ≡ s.book
back_book t s _ stands = refl
back_book t s _ (drops op ps runs given) = refl
back_book t s _ (undoes last inverse ps idle effect inverts given) = refl

return_book : (t first : ℕ) (s z : State) → IsReturn s t first z → z.book ≡ s.book
return_book t first s _ stays_so = refl
return_book t first s _ (returns last inverse ps idle effect after inverts given) = refl

-- a step of going back is refused at once, but of a transaction that goes back
not_returning : (failed : Bool) (o : Option TxnState) → is_returning o ≡ false → (w : Refusal) × ((if failed then Some refusal.DeviceFailed else unless (is_returning o) refusal.Stranger) ≡ Some w)
not_returning true o none = (refusal.DeviceFailed, refl)
not_returning false o none = (refusal.Stranger, ap (λ (b : Bool). unless b refusal.Stranger) none)

books_grow : (s : State) (ts : List ℕ) → IsPrefix s.book (booked_each s ts).book
books_grow s [] = prefix_self s.book
books_grow s (t ∷ ts) = let z = booked s t (session_at s t) in prefix_trans s.book z.book (booked_each z ts).book (_, refl) (books_grow z ts)

-- ---- of kernels

module _ {D : Type 0} {g : Ghosts D} where
  -- from some state to one of the same book
  abbrev pub Goes : Base → State → Kernel D g → Type 0
  Goes b s n = ∥ ((z : State) × (z.book ≡ s.book) × Shows (base_of b) z n) ∥₁

  -- shown from the base that this one is seen as
  pub began_so : (b : Base) (k : Kernel D g) (first : model.Base) (s : State) → base_of b ≡ first → Shows first s k → Restarts first k → BeganOn b k
  began_so b k first s same shows again =
      (∣ (s, subst (λ (f : model.Base). Shows f s k) (sym same) shows) ∣₁, subst (λ (f : model.Base). Restarts f k) (sym same) again)

  book_of : (b : Base) (k : Kernel D g) (s : State) → Shows (base_of b) s k → s.book ≡ k.core.book.items
  book_of b k s shows = ∥∥₁_elim (legal_of g k.relations k.counters k.core (base_of b) s shows) (hlevel (props, Books-set)) (λ (same, legal). same)

  pub legal_book : (b : Base) (k : Kernel D g) → BeganOn b k → IsLegal (base_of b) k.core.book.items
  legal_book b k began = ∥∥₁_elim began.0 (IsLegal-prop (base_of b) k.core.book.items) (λ (s, shows).
      ∥∥₁_elim (legal_of g k.relations k.counters k.core (base_of b) s shows) (IsLegal-prop (base_of b) k.core.book.items) (λ (same, legal). legal))

  pub still_began : (b : Base) (k n : Kernel D g) → ((s : State) → Shows (base_of b) s k → Goes b s n) → StaysRestarting k n → BeganOn b k → BeganOn b n
  still_began b k n go again began = (∥∥₁_elim began.0 (hlevel props) (λ (s, shows). ∥∥₁_map (go s shows) (λ (z, same, now). (z, now))), again (base_of b) began.1)

  pub same_book : (b : Base) (k n : Kernel D g) → ((s : State) → Shows (base_of b) s k → Goes b s n) → BeganOn b k → n.core.book.items ≡ k.core.book.items
  same_book b k n go began = ∥∥₁_elim began.0 (hlevel (props, Books-set)) (λ (s, shows). ∥∥₁_elim (go s shows) (hlevel (props, Books-set)) (λ (z, same, now).
      sym (book_of b n z now) ∙ (same ∙ book_of b k s shows)))

  -- ---- a log turned over

  -- it is in whatever state it was, where it can be restarted
  abbrev pub GoesOn : Kernel D g → Kernel D g → Type 0
  GoesOn k n = (first : model.Base) (s : State) → Restarts first k → Shows first s k → Shows first s n

  pub turned_began : (b : Base) (k n : Kernel D g) → GoesOn k n → StaysRestarting k n → BeganOn b k → BeganOn b n
  turned_began b k n go again began = (∥∥₁_map began.0 (λ (s, shows). (s, go (base_of b) s began.1 shows)), again (base_of b) began.1)

  pub turned_book : (b : Base) (k n : Kernel D g) → GoesOn k n → BeganOn b k → n.core.book.items ≡ k.core.book.items
  turned_book b k n go began = same_book b k n (λ s shows. ∣ (s, refl, go (base_of b) s began.1 shows) ∣₁) began

  -- ---- calls that leave the book

  pub stays : (b : Base) (k n : Kernel D g) → Stays k n → (s : State) → Shows (base_of b) s k → Goes b s n
  stays b k n same s shows = ∣ (s, refl, same (base_of b) s shows) ∣₁

  pub begins_one : {T : Type 0} → (b : Base) (k n : Kernel D g) (session : ℕ) (r : Result T Refusal) → ((s : State) → Shows (base_of b) s k → OnOk r (Shows (base_of b) (begun s session) n))
      → OnErr r (n.core ≡ k.core) → SameSchema k n → (s : State) → Shows (base_of b) s k → Goes b s n
  begins_one b k n session (Ok x) did err schema s shows = ∣ (begun s session, refl, did s shows) ∣₁
  begins_one b k n session (Err why) did err schema s shows = ∣ (s, refl, parts_stay k n err schema (base_of b) s shows) ∣₁

  pub calls_one : (b : Base) (n : Kernel D g) (t : ℕ) (op : Op) (r : Result Called Refusal) (s : State) → HasCalled (base_of b) s t op r n → Goes b s n
  calls_one b n t op (Ok call.Started) s has = ∣ (called s t op, refl, has) ∣₁
  calls_one b n t op (Ok (call.Wait holder)) s has = ∣ (s, refl, has) ∣₁
  calls_one b n t op (Err why) s has = ∣ (s, refl, has) ∣₁

  pub steps_one : (b : Base) (k n : Kernel D g) (t : ℕ) (r : Result Stepped Refusal) → OnOk r (step_cause (is_failed k) k.core t ≡ None) → (s : State) → Shows (base_of b) s k
      → HasStepped (base_of b) s t r n → Goes b s n
  steps_one b k n t (Ok (step.Replied reply)) may s shows has = go (s.running t) refl
    where
      go : (o : Option Op) → s.running t ≡ o → Goes b s n
      go None none = absurd (let both = both_hold (is_failed k) (is_open (state_in k.core.live.members t)) (is_busy k.core t) may in
          let idle = idle_of g k.relations k.counters k.core (base_of b) s shows t (open_state (state_in k.core.live.members t) both.0) none in
          let wrong : ◌≡◌ {A = Bool} true false = sym both.1 ∙ idle in cc)
      go (Some op) runs = ∣ (ended s t op, refl, (has op runs).0) ∣₁
  steps_one b k n t (Ok step.Went) may s shows has = ∣ (s, refl, has) ∣₁
  steps_one b k n t (Ok (step.Wait other)) may s shows has = ∣ (s, refl, has) ∣₁
  steps_one b k n t (Ok step.Again) may s shows has = ∣ (s, refl, has) ∣₁
  steps_one b k n t (Ok step.Flush) may s shows has = ∣ (s, refl, has) ∣₁
  steps_one b k n t (Err why) may s shows has = ∣ (s, refl, has) ∣₁

  pub aborts_one : (b : Base) (n : Kernel D g) (t : ℕ) (r : Result AbortStepped Refusal) (s : State) → HasAborted (base_of b) s t r n → Goes b s n
  aborts_one b n t (Ok abort.More) s has = ∥∥₁_map has (λ (z, back, now). (z, back_book t s z back, now))
  aborts_one b n t (Ok (abort.Wait other)) s has = ∣ (s, refl, has) ∣₁
  aborts_one b n t (Ok abort.Again) s has = ∣ (s, refl, has) ∣₁
  aborts_one b n t (Ok abort.Flush) s has = ∣ (s, refl, has) ∣₁
  aborts_one b n t (Ok abort.Ended) s has = ∣ (gone s t, refl, has.0) ∣₁
  aborts_one b n t (Err why) s has = ∣ (s, refl, has) ∣₁

  returns_to : (b : Base) (n : Kernel D g) (t first : ℕ) (r : Result AbortStepped Refusal) (s : State) → HasReturned (base_of b) s t first r n → Goes b s n
  returns_to b n t first (Ok abort.More) s has = ∥∥₁_map has (λ (z, back, now). (z, return_book t first s z back, now))
  returns_to b n t first (Ok (abort.Wait other)) s has = ∣ (s, refl, has) ∣₁
  returns_to b n t first (Ok abort.Again) s has = ∣ (s, refl, has) ∣₁
  returns_to b n t first (Ok abort.Flush) s has = ∣ (s, refl, has) ∣₁
  returns_to b n t first (Ok abort.Ended) s has = ∣ (settled s t first, refl, has.0) ∣₁
  returns_to b n t first (Err why) s has = ∣ (s, refl, has) ∣₁

  pub returns_one : (b : Base) (k n : Kernel D g) (t : ℕ) (r : Result AbortStepped Refusal) → IsRefusedAtOnce (return_cause (is_failed k) k.core t) k r n
      → ((s : State) (first : ℕ) → Shows (base_of b) s k → state_in k.core.live.members t ≡ Some (Returning first) → HasReturned (base_of b) s t first r n)
      → (s : State) → Shows (base_of b) s k → Goes b s n
  returns_one b k n t r early returned s shows = go (state_in k.core.live.members t) refl
    where
      still : (o : Option TxnState) → state_in k.core.live.members t ≡ o → is_returning o ≡ false → Goes b s n
      still o is none =
          let (w, cause) = not_returning (is_failed k) (state_in k.core.live.members t) (ap is_returning is ∙ none) in
          ∣ (s, refl, subst (λ (x : Kernel D g). Shows (base_of b) s x) (sym (early w cause).1) shows) ∣₁

      go : (o : Option TxnState) → state_in k.core.live.members t ≡ o → Goes b s n
      go None is = still None is refl
      go (Some Open) is = still (Some Open) is refl
      go (Some Committing) is = still (Some Committing) is refl
      go (Some Aborting) is = still (Some Aborting) is refl
      go (Some (Returning first)) is = returns_to b n t first r s (returned s first shows is)

  -- ---- force steps

  abbrev Grows : Base → State → Kernel D g → Type 0
  Grows b s n = ∥ ((z : State) × IsPrefix s.book z.book × Shows (base_of b) z n) ∥₁

  forces_one : (b : Base) (n : Kernel D g) (r : Result KernelForced Refusal) (s : State) → HasForced (base_of b) s r n → Grows b s n
  forces_one b n (Ok forced.More) s has = ∣ (s, prefix_self s.book, has) ∣₁
  forces_one b n (Ok forced.Idle) s has = ∣ (s, prefix_self s.book, has) ∣₁
  forces_one b n (Ok (forced.Durable names)) s has = ∣ (booked_each s names.items, books_grow s names.items, has) ∣₁
  forces_one b n (Err why) s has = ∣ (s, prefix_self s.book, has) ∣₁

  pub forced_began : (b : Base) (k n : Kernel D g) (r : Result KernelForced Refusal) → ((s : State) → Shows (base_of b) s k → HasForced (base_of b) s r n) → StaysRestarting k n → BeganOn b k → BeganOn b n
  forced_began b k n r did again began = (∥∥₁_elim began.0 (hlevel props) (λ (s, shows). ∥∥₁_map (forces_one b n r s (did s shows)) (λ (z, more, now). (z, now))), again (base_of b) began.1)

  pub forced_grows : (b : Base) (k n : Kernel D g) (r : Result KernelForced Refusal) → ((s : State) → Shows (base_of b) s k → HasForced (base_of b) s r n) → BeganOn b k → IsPrefix k.core.book.items n.core.book.items
  forced_grows b k n r did began = begins k.core.book.items n.core.book.items (∥∥₁_elim began.0 (hlevel props) (λ (s, shows). ∥∥₁_map (forces_one b n r s (did s shows)) (λ (z, more, now).
      subst (λ (x : List Committed × List Committed). IsPrefix x.0 x.1) (λ i. (book_of b k s shows i, book_of b n z now i)) more)))
