-- What an event does to the state that a kernel shows, by what it is answered.
use Rattle.std.specs.Prelude.{ℕ, ◌≡◌, true, false, is_some, List, [], ◌∷◌, Option, Some, None, Vec}
use Rattle.std.specs.Global.{Global}
use Rattle.mt_base.specs.declared.refusal.Refusal.{Refusal}
use Rattle.mt_core.specs.Booked.{booked_each}
use Rattle.mt_core.specs.declared.calls.Called.TheVariants as call
use Rattle.mt_live.specs.Adds.{GivesBack}
use Rattle.mt_live.specs.Entries.{Entry}
use Rattle.mt_live.specs.Machine.{State, begun, called, ended, dropped, undone, returned, settled, gone}
use Rattle.mt_live.specs.Undoing.{after_first, last_effect}
use Rattle.mt_live.specs.declared.transactions.TxnState.{TxnState}
use Rattle.mt_live.specs.declared.transactions.TxnState.TheVariants as phase
use Rattle.mt_model.specs.Model.{inverse_of, reply_of}
use Rattle.mt_model.specs.declared.operations.Op.{Op}
use Rattle.mt_model.specs.declared.pending_add.Pending.{Pending}
use Rattle.mt_pool.specs.declared.flushes.Flushed.{Flushed as FlushOutcome}
use Rattle.mt_txn.specs.declared.answers.AbortStepped.TheVariants as abort
use Rattle.mt_txn.specs.declared.answers.KernelForced.TheVariants as forced
use Rattle.mt_txn.specs.declared.answers.Stepped.TheVariants as step
use Rattle.mt_world.specs.Acts.{Act}
use Rattle.mt_world.specs.declared.events.Answer.{Answer}
use Rattle.mt_world.specs.declared.events.Answer.TheVariants.{Begun, Called, Stepped, Committing, Aborting, Undone, Returning, Returned, Forced, Flushed, Rotated, Refused}
use Rattle.mt_world.specs.declared.events.Event.{Event}
use Rattle.mt_world.specs.declared.events.Event.TheVariants.{Begin, Call, Step, Commit, AbortBegin, AbortStep, Back, BackStep, Force, Flush, Rotate}

-- An answer at which the state stays: a refusal, something in the way, or a part of a step's work.
pub data IsStill : Event → Answer → Type 0 where
  is_refused : (event : Event) (why : Refusal) → IsStill event (Refused why)
  call_waits : (t : ℕ) (op : Op) (holder : ℕ) → IsStill (Call t op) (Called (call.Wait holder))
  step_went : (t : ℕ) → IsStill (Step t) (Stepped step.Went)
  step_waits : (t other : ℕ) → IsStill (Step t) (Stepped (step.Wait other))
  step_again : (t : ℕ) → IsStill (Step t) (Stepped step.Again)
  step_full : (t : ℕ) → IsStill (Step t) (Stepped step.Flush)
  commit_begun : (t place : ℕ) → IsStill (Commit t) (Committing place)
  abort_begun : (t : ℕ) → IsStill (AbortBegin t) Aborting
  abort_went : (t : ℕ) → IsStill (AbortStep t) (Undone abort.More)
  abort_waits : (t other : ℕ) → IsStill (AbortStep t) (Undone (abort.Wait other))
  abort_again : (t : ℕ) → IsStill (AbortStep t) (Undone abort.Again)
  abort_full : (t : ℕ) → IsStill (AbortStep t) (Undone abort.Flush)
  back_begun : (t first : ℕ) → IsStill (Back t first) Returning
  return_went : (t : ℕ) → IsStill (BackStep t) (Returned abort.More)
  return_waits : (t other : ℕ) → IsStill (BackStep t) (Returned (abort.Wait other))
  return_again : (t : ℕ) → IsStill (BackStep t) (Returned abort.Again)
  return_full : (t : ℕ) → IsStill (BackStep t) (Returned abort.Flush)
  force_went : IsStill Force (Forced forced.More)
  force_idle : IsStill Force (Forced forced.Idle)
  flushed : (outcome : FlushOutcome) → IsStill Flush (Flushed outcome)
  rotated : IsStill Rotate Rotated

-- An event with its answer leads from a state, and from what each transaction is about, to another state, with what
-- ended in it: one operation at most.
pub data Moves (state : ℕ → Option TxnState) (s : State) : Event → Answer → List Act → State → Type 0 where
  stays : (event : Event) (answer : Answer) → IsStill event answer → Moves state s event answer [] s
  begins : (session : ℕ) → Moves state s (Begin session) (Begun s.next) [] (begun s session)
  calls : (t : ℕ) (op : Op) → Moves state s (Call t op) (Called call.Started) [] (called s t op)
  ends : (t : ℕ) (op : Op) → s.running t ≡ Some op
      → Moves state s (Step t) (Stepped (step.Replied (reply_of s.base op)))
      (record { txn = t; op = op; reply = reply_of s.base op; undoes = false } ∷ []) (ended s t op)
  drops : (t : ℕ) (op : Op) (ps : List Pending) → s.running t ≡ Some op → GivesBack t op s.pending ps
      → Moves state s (AbortStep t) (Undone abort.More) [] (dropped s t ps)
  undoes : (t : ℕ) (last : Entry) (inverse : Op) (ps : List Pending) → s.running t ≡ None
      → last_effect t s.standing ≡ Some last → inverse_of last.op last.reply ≡ Some inverse
      → GivesBack t last.op s.pending ps
      → Moves state s (AbortStep t) (Undone abort.More)
      (record { txn = t; op = inverse; reply = reply_of s.base inverse; undoes = true } ∷ []) (undone s t inverse ps)
  aborts : (t : ℕ) → last_effect t s.standing ≡ None → Moves state s (AbortStep t) (Undone abort.Ended) [] (gone s t)
  -- the last effect after the first so many, and its inverse, which both stay
  returns : (t first : ℕ) (last : Entry) (inverse : Op) (ps : List Pending) → state t ≡ Some (phase.Returning first)
      → s.running t ≡ None → last_effect t s.standing ≡ Some last
      → is_some (last_effect t (after_first t first s.standing)) ≡ true
      → inverse_of last.op last.reply ≡ Some inverse → GivesBack t last.op s.pending ps
      → Moves state s (BackStep t) (Returned abort.More)
      (record { txn = t; op = inverse; reply = reply_of s.base inverse; undoes = true } ∷ [])
      (returned s t last inverse ps)
  -- no effect is left after them
  settles : (t first : ℕ) → state t ≡ Some (phase.Returning first)
      → last_effect t (after_first t first s.standing) ≡ None
      → Moves state s (BackStep t) (Returned abort.Ended) [] (settled s t first)
  books : (names : Vec ℕ Global) → Moves state s Force (Forced (forced.Durable names)) [] (booked_each s names.items)
