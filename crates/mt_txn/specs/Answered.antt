-- What each call answers of a kernel that is lent, and what it leaves of it: k before, and n after the call.
use Rattle.std.specs.Prelude.{ℕ, ◌≡◌, ◌≢◌, ◌⊎◌, IfErr, IfOk, None, OnErr, OnOk, Option, Result, Some, ◌+◌, filter, length}
use Rattle.mt_disk.specs.declared.device.Device.{Ghosts}
use Rattle.mt_base.specs.declared.refusal.Refusal.{Refusal}
use Rattle.mt_base.specs.declared.refusal.Refusal.TheVariants.{NoMemory}
use Rattle.mt_core.specs.Consistent.{SameCommits, SameStates, SetsState}
use Rattle.mt_core.specs.Runs.{count_in, state_in}
use Rattle.mt_core.specs.declared.calls.Called.{Called}
use Rattle.mt_live.specs.Machine.{State}
use Rattle.mt_live.specs.Undoing.{is_counted}
use Rattle.mt_live.specs.declared.transactions.TxnState.TheVariants.{Open, Returning}
use Rattle.mt_model.specs.Model.{Base}
use Rattle.mt_model.specs.declared.operations.Op.{Op}
use Rattle.mt_pool.specs.declared.flushes.Flushed.{Flushed}
use Rattle.mt_txn.specs.Causes.{IsFailure, IsFault, IsRefusedAtOnce, abort_begin_cause, abort_cause, back_cause, begin_cause, call_cause, commit_cause, return_cause, step_cause}
use Rattle.mt_txn.specs.Events.{AbortsTo, AnswersIn, IsForcedBy, ReturnsTo, StepsTo}
use Rattle.mt_txn.specs.Seen.{KernelSeen, ShowsSeen, has_failed_in}
use Rattle.mt_txn.specs.declared.answers.AbortStepped.{AbortStepped}
use Rattle.mt_txn.specs.declared.answers.KernelForced.{KernelForced}
use Rattle.mt_txn.specs.declared.answers.Stepped.{Stepped}
use Rattle.mt_core.specs.Seen.{core_log}

-- Refused with 1 or for this cause; and not answered if there is a cause.
pub record IsRefusedFor {T : Type 0} (cause : Option Refusal) (result : Result T Refusal) : Type 0 where
  pub may : OnOk result (cause ≡ None)
  pub why : IfErr result (λ why. why ≢ NoMemory → cause ≡ Some why)

module _ {D : Type 0} where
  -- the transaction is open then, or nothing has changed
  pub record AnswersBegin (k : KernelSeen D) (result : Result ℕ Refusal) (n : KernelSeen D) : Type 0 where
    pub refused : IsRefusedFor (begin_cause (has_failed_in k) k.core) result
    pub early : IsRefusedAtOnce (begin_cause (has_failed_in k) k.core) k result n
    pub opened : IfOk result (λ txn. SetsState k.core n.core txn (Some Open))
    pub err : OnErr result (n.core ≡ k.core)

  -- the commit's place in the book is answered
  pub record AnswersCommit (k : KernelSeen D) (t : ℕ) (result : Result ℕ Refusal) (n : KernelSeen D) : Type 0 where
    pub refused : IsRefusedFor (commit_cause (has_failed_in k) k.core t) result
    pub early : IsRefusedAtOnce (commit_cause (has_failed_in k) k.core t) k result n
    pub place : IfOk result (λ place. place ≡ length k.core.book.items + length k.core.commits.items + 1)

  -- if it is refused, nothing has changed
  pub record AnswersAbort (k : KernelSeen D) (t : ℕ) (result : Result (Unit {0}) Refusal)
      (n : KernelSeen D) : Type 0 where
    pub may : OnOk result (abort_begin_cause (has_failed_in k) k.core t ≡ None)
    pub why : IfErr result (λ why. abort_begin_cause (has_failed_in k) k.core t ≡ Some why)
    pub err : OnErr result (n ≡ k)

  -- if it is refused, nothing has changed
  pub record AnswersBack (k : KernelSeen D) (t first : ℕ) (result : Result (Unit {0}) Refusal)
      (n : KernelSeen D) : Type 0 where
    pub may : OnOk result (back_cause (has_failed_in k) k.core t first ≡ None)
    pub why : IfErr result (λ why. back_cause (has_failed_in k) k.core t first ≡ Some why)
    pub err : OnErr result (n ≡ k)

module _ {D : Type 0} (g : Ghosts D) where
  -- so many operations count of an open transaction that runs nothing
  pub record AnswersSave (k : KernelSeen D) (t : ℕ) (result : Result ℕ Refusal) : Type 0 where
    pub may : OnOk result (commit_cause (has_failed_in k) k.core t ≡ None)
    pub why : IfErr result (λ why. commit_cause (has_failed_in k) k.core t ≡ Some why)
    pub count : IfOk result (λ count. count_in k.core.live.members t ≡ Some count)
    pub standing : (first : Base) (s : State) → ShowsSeen g first s k
        → IfOk result (λ count. count ≡ length (filter (is_counted t) s.standing))

  -- locks, escrow, pages and log are asked if nothing else forbids the call
  pub record AnswersCall (k : KernelSeen D) (t : ℕ) (op : Op) (result : Result Called Refusal)
      (n : KernelSeen D) : Type 0 where
    pub early : IsRefusedAtOnce (call_cause k.relations k.counters (has_failed_in k) k.core t op) k result n
    pub answer : call_cause k.relations k.counters (has_failed_in k) k.core t op ≡ None
        → AnswersIn g k.relations k.counters k.core t op result
    pub states : SameStates k.core n.core
    pub commits : SameCommits k.core n.core

  -- what is replied is what the model replies, on the base that the pages hold
  pub record AnswersStep (k : KernelSeen D) (t : ℕ) (result : Result Stepped Refusal) (n : KernelSeen D) : Type 0 where
    pub may : OnOk result (step_cause (has_failed_in k) k.core t ≡ None)
    pub early : IsRefusedAtOnce (step_cause (has_failed_in k) k.core t) k result n
    pub why : IfErr result (λ why. why ≢ NoMemory
        → (step_cause (has_failed_in k) k.core t ≡ Some why) ⊎ IsFault g k.core n.core why)
    pub stepped : (first : Base) (s : State) → ShowsSeen g first s k → StepsTo (λ z. ShowsSeen g first z n) s t result

  -- the effects that it undid stand no more
  pub record AnswersAbortStep (k : KernelSeen D) (t : ℕ) (result : Result AbortStepped Refusal)
      (n : KernelSeen D) : Type 0 where
    pub may : OnOk result (abort_cause (has_failed_in k) k.core t ≡ None)
    pub early : IsRefusedAtOnce (abort_cause (has_failed_in k) k.core t) k result n
    pub why : IfErr result (λ why. why ≢ NoMemory
        → (abort_cause (has_failed_in k) k.core t ≡ Some why) ⊎ IsFault g k.core n.core why)
    pub aborted : (first : Base) (s : State) → ShowsSeen g first s k → AbortsTo (λ z. ShowsSeen g first z n) s t result

  -- what it took back counts no more
  pub record AnswersBackStep (k : KernelSeen D) (t : ℕ) (result : Result AbortStepped Refusal)
      (n : KernelSeen D) : Type 0 where
    pub may : OnOk result (return_cause (has_failed_in k) k.core t ≡ None)
    pub early : IsRefusedAtOnce (return_cause (has_failed_in k) k.core t) k result n
    pub why : IfErr result (λ why. why ≢ NoMemory
        → (return_cause (has_failed_in k) k.core t ≡ Some why) ⊎ IsFault g k.core n.core why)
    pub returned : (base : Base) (s : State) (first : ℕ) → ShowsSeen g base s k
        → state_in k.core.live.members t ≡ Some (Returning first)
        → ReturnsTo (λ z. ShowsSeen g base z n) s t first result

module _ {D : Type 0} (g : Ghosts D) where
  -- the commits that are named are durable
  pub record AnswersForce (k : KernelSeen D) (result : Result KernelForced Refusal) (n : KernelSeen D) : Type 0 where
    pub why : IfErr result (λ why. why ≢ NoMemory → IsFailure g (has_failed_in k) k.core n.core why)
    pub forced : IfOk result (λ forced. IsForcedBy (core_log k.core) k.core.commits.items forced (core_log n.core)
        n.core.commits.items)

  -- the log stays as it is
  pub record AnswersFlush (k : KernelSeen D) (result : Result Flushed Refusal) (n : KernelSeen D) : Type 0 where
    pub why : IfErr result (IsFailure g (has_failed_in k) k.core n.core)
    pub log : core_log n.core ≡ core_log k.core
