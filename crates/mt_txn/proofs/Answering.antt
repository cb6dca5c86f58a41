-- What the calls' answers say of the state that a kernel shows.
use Rattle.std.proofs.Common.{⊎_elim, inr, arith, ◌<◌, ◌≤◌, ◌≡◌, ◌≢◌, ℕ, List, length, Option, Some, None, Result, Ok, Err, refl, sym, ap, subst}
use Rattle.std.specs.Prelude.{All, OnOk}
use mathlib.Core.Logic.{∥∥₁_map}
use Rattle.mt_base.specs.declared.refusal.Refusal.{Refusal}
use Rattle.mt_disk.specs.declared.device.Device.{Ghosts}
use Rattle.mt_frame.specs.declared.records.Record.{Record}
use Rattle.mt_live.specs.Lives.{calls_of, member_of}
use Rattle.mt_live.specs.Members.{forward_count}
use Rattle.mt_live.specs.Machine.{State, called}
use Rattle.mt_live.specs.declared.transactions.TxnState.TheVariants.{Open, Committing, Returning, Aborting}
use Rattle.mt_model.specs.Model.{Base, IsWithin}
use Rattle.mt_model.specs.declared.operations.Op.{Op}
use Rattle.mt_core.specs.Consistent.{Origin, state_of, IsConsistent, IsIn, MayBeCalled, IsCalled}
use Rattle.mt_core.specs.Runs.{state_in, is_returning}
use Rattle.mt_core.specs.declared.calls.Called.{Called}
use Rattle.mt_core.specs.declared.calls.Called.TheVariants as call
use Rattle.mt_core.specs.declared.parts.Core.{Core}
use Rattle.mt_op.specs.declared.scope.OpScope.{OpScope}
use Rattle.mt_txn.proofs.Showing.{open_works, within_of}
use Rattle.mt_txn.specs.Causes.{IsNamed, IsRefusedAtOnce, IsSized}
use Rattle.mt_txn.specs.Events.{AbortsTo, HasCalled, HasForced, InvertsTo, ReturnsTo, StepsTo}
use Rattle.mt_txn.specs.Events.IsBack.{stands}
use Rattle.mt_txn.specs.Events.IsReturn.{stays}
use Rattle.mt_live.specs.declared.transactions.TxnState.{TxnState}
use Rattle.mt_txn.specs.Shown.{Shows}
use Rattle.mt_core.specs.Work.{LeavesSteps}
use Rattle.mt_core.specs.declared.steps.Going.{Going}
use Rattle.mt_txn.specs.Work.{IsReportedAs, LowersSteps, IsAbortReportedAs, LowersUndoing, NoneAreLeft}
use Rattle.mt_txn.specs.Writes.{LogsNothing, UndoingWrites}
use Rattle.mt_txn.specs.Well.{IsOrigin, IsWell, ShowsIn}
use Rattle.mt_txn.specs.declared.answers.AbortStepped.{AbortStepped}
use Rattle.mt_txn.specs.declared.answers.AbortStepped.TheVariants as abort
use Rattle.mt_txn.specs.declared.answers.KernelForced.{KernelForced}
use Rattle.mt_txn.specs.declared.answers.Stepped.{Stepped}
use Rattle.mt_txn.specs.declared.answers.Stepped.TheVariants as step
use Rattle.mt_txn.specs.declared.kernel.Kernel.{Kernel}

-- of what has a fact in each state that it may come to
module _ (Is : State → Type 0) (s : State) where
  pub err_stepped : (t : ℕ) (r : Result Stepped Refusal) (y : Refusal) → r ≡ Err y → Is s → StepsTo Is s t r
  err_stepped t r y is shows = subst (λ x. StepsTo Is s t x) (sym is) shows

  pub going_stepped : (t : ℕ) (rs : List OpScope) (gone : Going) (x : Stepped) → IsReportedAs rs gone x → Is s → StepsTo Is s t (Ok x)
  going_stepped t rs gone (step.Replied reply) outcome shows = absurd outcome
  going_stepped t rs gone step.Went outcome shows = shows
  going_stepped t rs gone (step.Wait other) outcome shows = shows
  going_stepped t rs gone step.Again outcome shows = shows
  going_stepped t rs gone step.Flush outcome shows = shows

  pub err_aborted : (t : ℕ) (r : Result AbortStepped Refusal) (y : Refusal) → r ≡ Err y → Is s → AbortsTo Is s t r
  err_aborted t r y is shows = subst (λ x. AbortsTo Is s t x) (sym is) shows

  pub going_aborted : (t : ℕ) (x : AbortStepped) → (x ≡ abort.Ended → ⊥) → Is s → AbortsTo Is s t (Ok x)
  going_aborted t abort.Ended not shows = absurd (not refl)
  going_aborted t abort.More not shows = ∣ (s, stands, shows) ∣₁
  going_aborted t (abort.Wait other) not shows = shows
  going_aborted t abort.Again not shows = shows
  going_aborted t abort.Flush not shows = shows

  pub err_returned : (t first : ℕ) (r : Result AbortStepped Refusal) (y : Refusal) → r ≡ Err y → Is s → ReturnsTo Is s t first r
  err_returned t first r y is shows = subst (λ x. ReturnsTo Is s t first x) (sym is) shows

  -- an inverse that goes on, whatever the state of its transaction
  pub err_inverted : (t : ℕ) (state : Option TxnState) (r : Result AbortStepped Refusal) (y : Refusal) → r ≡ Err y → Is s → InvertsTo Is s t state r
  err_inverted t None r y is shows = err_aborted t r y is shows
  err_inverted t (Some Open) r y is shows = err_aborted t r y is shows
  err_inverted t (Some Committing) r y is shows = err_aborted t r y is shows
  err_inverted t (Some (Returning first)) r y is shows = err_returned t first r y is shows
  err_inverted t (Some Aborting) r y is shows = err_aborted t r y is shows

  pub going_inverted : (t : ℕ) (state : Option TxnState) (x : AbortStepped) → (x ≡ abort.Ended → ⊥) → Is s → InvertsTo Is s t state (Ok x)
  going_inverted t None x not shows = going_aborted t x not shows
  going_inverted t (Some Open) x not shows = going_aborted t x not shows
  going_inverted t (Some Committing) x not shows = going_aborted t x not shows
  going_inverted t (Some (Returning first)) x not shows = on x not shows
    where
      on : (x : AbortStepped) → (x ≡ abort.Ended → ⊥) → Is s → ReturnsTo Is s t first (Ok x)
      on abort.Ended not shows = absurd (not refl)
      on abort.More not shows = ∣ (s, stays, shows) ∣₁
      on (abort.Wait other) not shows = shows
      on abort.Again not shows = shows
      on abort.Flush not shows = shows
  going_inverted t (Some Aborting) x not shows = going_aborted t x not shows

module _ {D : Type 0} {g : Ghosts D} (first : Base) (s : State) where
  pub err_forced : (n : Kernel D g) (r : Result KernelForced Refusal) (y : Refusal) → r ≡ Err y → Shows first s n → HasForced first s r n
  err_forced n r y is shows = subst (λ x. HasForced first s x n) (sym is) shows

-- ---- a call

module _ {D : Type 0} (g : Ghosts D) (relations counters : ℕ) where
  pub may_call : (k : Core D) (t : ℕ) (op : Op) (origin : Origin) → IsOrigin relations counters origin.first origin → IsNamed relations counters op → IsSized op → state_in k.live.members t ≡ Some Open → All (λ (r : OpScope). r.txn ≢ t) k.running.items → forward_count (calls_of k.live.members t) < 256 → MayBeCalled origin k t op
  may_call k t op origin is named sized opened idle few = record {
    within = subst (λ (X : Type 0). X) (λ i. IsWithin (sym is.relations_are i) (sym is.counters_are i) op) (within_of relations counters op named sized);
    at_work = open_works (member_of k.live.members t) opened;
    forwards = ap is_returning opened;
    idle = idle;
    few = few;
  }

  abbrev pub CallShown : Core D → Base → State → ℕ → Op → Result Called Refusal → Type 0
  CallShown n first s t op (Ok call.Started) = ShowsIn g relations counters first (called s t op) n
  CallShown n first s t op (Ok (call.Wait holder)) = ShowsIn g relations counters first s n
  CallShown n first s t op (Err why) = ShowsIn g relations counters first s n

  leads_in : (n : Core D) (first : Base) (s z : State) (f : State → State) → (origin : Origin) (base : Base) → s ≡ z → IsIn g origin base (f z) n → IsIn g origin base (f s) n
  leads_in n first s z f origin base same is = subst (λ x. IsIn g origin base (f x) n) (sym same) is

  pub call_shown : (k n : Core D) (first : Base) (s : State) (t : ℕ) (op : Op) (res : Result Called Refusal) → ((origin : Origin) → IsOrigin relations counters origin.first origin → MayBeCalled origin k t op)
      → ((origin : Origin) (base : Base) → IsConsistent g origin base k → MayBeCalled origin k t op → IsCalled g origin base (state_of k base) n t op res) → ShowsIn g relations counters first s k → CallShown n first s t op res
  call_shown k n first s t op (Ok call.Started) may go shows = ∥∥₁_map shows (λ (origin, base, is, x). (origin, base, is, leads_in n first s (state_of k base) (λ z. called z t op) origin base x.state (go origin base x.consistent (may origin (record { relations_are = is.relations_are; counters_are = is.counters_are; first_is = refl })))))
  call_shown k n first s t op (Ok (call.Wait holder)) may go shows = ∥∥₁_map shows (λ (origin, base, is, x). (origin, base, is, leads_in n first s (state_of k base) (λ z. z) origin base x.state (go origin base x.consistent (may origin (record { relations_are = is.relations_are; counters_are = is.counters_are; first_is = refl })))))
  call_shown k n first s t op (Err why) may go shows = ∥∥₁_map shows (λ (origin, base, is, x). (origin, base, is, leads_in n first s (state_of k base) (λ z. z) origin base x.state (go origin base x.consistent (may origin (record { relations_are = is.relations_are; counters_are = is.counters_are; first_is = refl })))))

  pub call_well : (k n : Core D) (t : ℕ) (op : Op) (res : Result Called Refusal) → ((origin : Origin) → IsOrigin relations counters origin.first origin → MayBeCalled origin k t op)
      → ((origin : Origin) (base : Base) → IsConsistent g origin base k → MayBeCalled origin k t op → IsCalled g origin base (state_of k base) n t op res) → IsWell g relations counters k → IsWell g relations counters n
  call_well k n t op (Ok call.Started) may go well = ∥∥₁_map well (λ (origin, base, is, safe). (origin, base, is, (go origin base safe (may origin is)).consistent))
  call_well k n t op (Ok (call.Wait holder)) may go well = ∥∥₁_map well (λ (origin, base, is, safe). (origin, base, is, (go origin base safe (may origin is)).consistent))
  call_well k n t op (Err why) may go well = ∥∥₁_map well (λ (origin, base, is, safe). (origin, base, is, (go origin base safe (may origin is)).consistent))

pub call_answers : {D : Type 0} {g : Ghosts D} (first : Base) (s : State) (t : ℕ) (op : Op) (res : Result Called Refusal) (n : Kernel D g) → CallShown g n.relations n.counters n.core first s t op res → HasCalled first s t op res n
call_answers first s t op (Ok call.Started) n shows = shows
call_answers first s t op (Ok (call.Wait holder)) n shows = shows
call_answers first s t op (Err why) n shows = shows

-- ---- the steps that are left

pub going_lowers : (rs : List OpScope) (pages before now : ℕ) (gone : Going) (x : Stepped) → IsReportedAs rs gone x → LeavesSteps pages gone before now → LowersSteps pages (Ok x) before now
going_lowers rs pages before now gone (step.Replied reply) outcome less = absurd outcome
going_lowers rs pages before now gone step.Went outcome less = subst (λ g. LeavesSteps pages g before now) outcome less
going_lowers rs pages before now gone (step.Wait other) outcome less = subst (λ g. LeavesSteps pages g before now) outcome.1 less
going_lowers rs pages before now gone step.Flush outcome less = subst (λ g. LeavesSteps pages g before now) outcome less
going_lowers rs pages before now gone step.Again outcome less = ⊎_elim
    (λ waits. let few : now ≤ before = subst (λ g. LeavesSteps pages g before now) waits.0 less in omega arith)
    (λ again. subst (λ g. LeavesSteps pages g before now) again less) outcome.1

-- of an abort
pub going_left : (rs : List OpScope) (pages before now : ℕ) (gone : Going) (x : AbortStepped) → IsAbortReportedAs rs gone x → LeavesSteps pages gone before now → LowersUndoing NoneAreLeft pages (Ok x) before now
going_left rs pages before now gone abort.Ended outcome less = absurd outcome
going_left rs pages before now gone abort.More outcome less = subst (λ g. LeavesSteps pages g before now) outcome less
going_left rs pages before now gone (abort.Wait other) outcome less = subst (λ g. LeavesSteps pages g before now) outcome.1 less
going_left rs pages before now gone abort.Flush outcome less = subst (λ g. LeavesSteps pages g before now) outcome less
going_left rs pages before now gone abort.Again outcome less = ⊎_elim
    (λ waits. let few : now ≤ before = subst (λ g. LeavesSteps pages g before now) waits.0 less in omega arith)
    (λ again. subst (λ g. LeavesSteps pages g before now) again less) outcome.1

-- ---- what is appended

-- a step of the inverse under way ends nothing
pub inverse_logs : (AtEnd : List Record → List Record → Type 0) (old new : List Record) (r : Result AbortStepped Refusal) → (r ≡ Ok abort.Ended → ⊥) → UndoingWrites LogsNothing old new r → UndoingWrites AtEnd old new r
inverse_logs AtEnd old new (Ok abort.More) never is = is
inverse_logs AtEnd old new (Ok (abort.Wait other)) never is = is
inverse_logs AtEnd old new (Ok abort.Again) never is = is
inverse_logs AtEnd old new (Ok abort.Flush) never is = is
inverse_logs AtEnd old new (Ok abort.Ended) never is = absurd (never refl)
inverse_logs AtEnd old new (Err why) never is = is

pub logs_none : (AtEnd : List Record → List Record → Type 0) (old new : List Record) → new ≡ old → UndoingWrites AtEnd old new (Ok abort.More)
logs_none AtEnd old new same = let long = ap length same in inr (omega (arith, long))

-- ---- an early refusal

-- what is answered otherwise has no cause
pub may_of : {K T : Type 0} (cause : Option Refusal) (k n : K) (r : Result T Refusal) → IsRefusedAtOnce cause k r n → OnOk r (cause ≡ None)
may_of None k n (Ok x) early = refl
may_of (Some why) k n (Ok x) early = let wrong = (early why refl).0 in absurd cc
may_of cause k n (Err why) early = tt
