-- What the calls do to the state that a kernel shows.
use Rattle.std.specs.Prelude.{ℕ, ◌≡◌, true, drop, is_some, List, Option, Some, None, Result, Ok, Err}
use Rattle.mt_base.specs.declared.refusal.Refusal.{Refusal}
use Rattle.mt_disk.specs.declared.device.Device.{Ghosts}
use Rattle.mt_live.specs.Adds.{GivesBack}
use Rattle.mt_live.specs.Entries.{Entry}
use Rattle.mt_live.specs.Machine.{State, called, ended, dropped, undone, returned, settled, gone}
use Rattle.mt_live.specs.Undoing.{after_first, last_effect}
use Rattle.mt_live.specs.declared.transactions.TxnState.{TxnState}
use Rattle.mt_live.specs.declared.transactions.TxnState.TheVariants.{Open, Committing, Returning, Aborting}
use Rattle.mt_model.specs.Model.{Base, reply_of, inverse_of}
use Rattle.mt_model.specs.declared.operations.Op.{Op}
use Rattle.mt_model.specs.declared.pending_add.Pending.{Pending}
use Rattle.mt_core.specs.Booked.{booked_each, durable_count, durable_txns}
use Rattle.mt_core.specs.declared.parts.Commit.{Commit}
use Rattle.mt_core.specs.declared.parts.Core.{Core}
use Rattle.mt_log.specs.Words.{IsStep}
use Rattle.mt_log.specs.declared.log.Log.{Log}
use Rattle.mt_log.specs.declared.log.Forced.TheVariants as log
use Rattle.mt_core.specs.Causes.{IsAnswered}
use Rattle.mt_core.specs.Consistent.{Origin, IsConsistent, log_kept}
use Rattle.mt_core.specs.declared.calls.Called.{Called}
use Rattle.mt_core.specs.declared.calls.Called.TheVariants as call
use Rattle.mt_txn.specs.Shown.{Shows}
use Rattle.mt_txn.specs.Well.{IsOrigin}
use Rattle.mt_txn.specs.declared.answers.AbortStepped.{AbortStepped}
use Rattle.mt_txn.specs.declared.answers.AbortStepped.TheVariants as abort
use Rattle.mt_txn.specs.declared.answers.KernelForced.{KernelForced}
use Rattle.mt_txn.specs.declared.answers.KernelForced.TheVariants as forced
use Rattle.mt_txn.specs.declared.answers.Stepped.{Stepped}
use Rattle.mt_txn.specs.declared.answers.Stepped.TheVariants as step
use Rattle.mt_txn.specs.declared.kernel.Kernel.{Kernel}

-- What locks, escrow, pages and log say to a call that asks them, in this order, in a core of this schema.
abbrev pub AnswersIn : {D : Type 0} → Ghosts D → ℕ → ℕ → Core D → ℕ → Op → Result Called Refusal → Type 0
AnswersIn g relations counters k t op result =
    ∥ ((origin : Origin) × (base : Base) × IsOrigin relations counters origin.first origin
    × IsConsistent g origin base k × IsAnswered g origin k (log_kept k) t op result) ∥₁

-- the same of a kernel, with the relations and counters that it has
abbrev pub IsAnsweredBy : {D : Type 0} → {g : Ghosts D} → Kernel D g → ℕ → Op → Result Called Refusal → Type 0
IsAnsweredBy {g = g} k t op result = AnswersIn g k.relations k.counters k.core t op result

-- what a call that answered this left, of a kernel in this state: only one that is started changes it
abbrev pub HasCalled : {D : Type 0} → {g : Ghosts D} → Base → State → ℕ → Op → Result Called Refusal → Kernel D g
    → Type 0
HasCalled first s t op (Ok call.Started) n = Shows first (called s t op) n
HasCalled first s t op (Ok (call.Wait holder)) n = Shows first s n
HasCalled first s t op (Err why) n = Shows first s n

-- What a step did to what is in this state, of which a fact holds in each state that it may come to. One that replied
-- has acted once on the base that the pages held, as the model does, and has ended.
abbrev pub StepsTo : (State → Type 0) → State → ℕ → Result Stepped Refusal → Type 0
StepsTo Is s t (Ok (step.Replied reply)) =
    (op : Op) → s.running t ≡ Some op → Is (ended s t op) × ∥ reply_of s.base op ≡ reply ∥₁
StepsTo Is s t (Ok step.Went) = Is s
StepsTo Is s t (Ok (step.Wait other)) = Is s
StepsTo Is s t (Ok step.Again) = Is s
StepsTo Is s t (Ok step.Flush) = Is s
StepsTo Is s t (Err why) = Is s

abbrev pub HasStepped : {D : Type 0} → {g : Ghosts D} → Base → State → ℕ → Result Stepped Refusal → Kernel D g → Type 0
HasStepped first s t result n = StepsTo (λ z. Shows first z n) s t result

-- what a step of a force did: the transactions that it names are in the book, one after the other, and live no more
abbrev pub HasForced : {D : Type 0} → {g : Ghosts D} → Base → State → Result KernelForced Refusal → Kernel D g → Type 0
HasForced first s (Ok forced.More) n = Shows first s n
HasForced first s (Ok forced.Idle) n = Shows first s n
HasForced first s (Ok (forced.Durable names)) n = Shows first (booked_each s names.items) n
HasForced first s (Err why) n = Shows first s n

-- What a step of a force did to the log and to the commits under way. Those that it names are durable now: their
-- records lie up to where the log is durable; and no other commit left.
abbrev pub IsForcedBy : Log → List Commit → KernelForced → Log → List Commit → Type 0
IsForcedBy old cs forced.More new ds = IsStep old log.More new × (ds ≡ cs)
IsForcedBy old cs forced.Idle new ds = IsStep old log.Idle new × (ds ≡ cs)
IsForcedBy old cs (forced.Durable names) new ds = (place : ℕ) × IsStep old (log.Durable place) new
    × (names.items ≡ durable_txns cs place) × (ds ≡ drop (durable_count cs place) cs)

-- What a step of an abort that goes on may lead to: the state as it was; what its transaction runs dropped; or the
-- last effect of its transaction undone by the inverse of that. With either goes the add, if it was one, and no
-- other.
pub data IsBack (s : State) (t : ℕ) : State → Type 0 where
  stands : IsBack s t s
  drops : (op : Op) (ps : List Pending) → s.running t ≡ Some op → GivesBack t op s.pending ps
      → IsBack s t (dropped s t ps)
  undoes : (last : Entry) (inverse : Op) (ps : List Pending) → s.running t ≡ None → last_effect t s.standing ≡ Some last
      → inverse_of last.op last.reply ≡ Some inverse → GivesBack t last.op s.pending ps
      → IsBack s t (undone s t inverse ps)

-- What a step of the abort of t did to what is in this state.
abbrev pub AbortsTo : (State → Type 0) → State → ℕ → Result AbortStepped Refusal → Type 0
AbortsTo Is s t (Ok abort.More) = ∥ ((z : State) × IsBack s t z × Is z) ∥₁
AbortsTo Is s t (Ok (abort.Wait other)) = Is s
AbortsTo Is s t (Ok abort.Again) = Is s
AbortsTo Is s t (Ok abort.Flush) = Is s
AbortsTo Is s t (Ok abort.Ended) = Is (gone s t) × ∥ last_effect t s.standing ≡ None ∥₁
AbortsTo Is s t (Err why) = Is s

-- the same of a kernel that represented this state before the step
abbrev pub HasAborted : {D : Type 0} → {g : Ghosts D} → Base → State → ℕ → Result AbortStepped Refusal → Kernel D g
    → Type 0
HasAborted first s t result n = AbortsTo (λ z. Shows first z n) s t result

-- ---- a transaction that goes back to its first so many operations, and then on

-- What a step of it may lead to: the state as it was; or the last effect of the transaction and the inverse of that,
-- which both stay. That effect came after the first so many. An add is set aside with it, if it was one, and no other.
pub data IsReturn (s : State) (t first : ℕ) : State → Type 0 where
  stays : IsReturn s t first s
  returns : (last : Entry) (inverse : Op) (ps : List Pending) → s.running t ≡ None
      → last_effect t s.standing ≡ Some last → is_some (last_effect t (after_first t first s.standing)) ≡ true
      → inverse_of last.op last.reply ≡ Some inverse → GivesBack t last.op s.pending ps
      → IsReturn s t first (returned s t last inverse ps)

-- What a step of t's going back to its first so many did to what is in this state.
abbrev pub ReturnsTo : (State → Type 0) → State → ℕ → ℕ → Result AbortStepped Refusal → Type 0
ReturnsTo Is s t first (Ok abort.More) = ∥ ((z : State) × IsReturn s t first z × Is z) ∥₁
ReturnsTo Is s t first (Ok (abort.Wait other)) = Is s
ReturnsTo Is s t first (Ok abort.Again) = Is s
ReturnsTo Is s t first (Ok abort.Flush) = Is s
ReturnsTo Is s t first (Ok abort.Ended) =
    Is (settled s t first) × ∥ last_effect t (after_first t first s.standing) ≡ None ∥₁
ReturnsTo Is s t first (Err why) = Is s

abbrev pub HasReturned : {D : Type 0} → {g : Ghosts D} → Base → State → ℕ → ℕ → Result AbortStepped Refusal
    → Kernel D g → Type 0
HasReturned base s t first result n = ReturnsTo (λ z. Shows base z n) s t first result

-- What a step of an inverse did, by the state of its transaction.
abbrev pub InvertsTo : (State → Type 0) → State → ℕ → Option TxnState → Result AbortStepped Refusal → Type 0
InvertsTo Is s t None r = AbortsTo Is s t r
InvertsTo Is s t (Some Open) r = AbortsTo Is s t r
InvertsTo Is s t (Some Committing) r = AbortsTo Is s t r
InvertsTo Is s t (Some (Returning first)) r = ReturnsTo Is s t first r
InvertsTo Is s t (Some Aborting) r = AbortsTo Is s t r
