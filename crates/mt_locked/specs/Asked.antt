-- What a call did to the kernel under the lock: what was answered, and what stays of it. k before, n after the call.
use Rattle.std.specs.Prelude.{ℕ, ◌≡◌, ◌+◌, ◌*◌, ◌≤◌, true, false, IfOk, None, OnOk, Option, Some, Result, Ok, Err, filter, is_some, length}
use Rattle.mt_base.specs.declared.refusal.Refusal.{Refusal}
use Rattle.mt_base.specs.declared.refusal.Refusal.TheVariants.{DeviceFailed, NoMemory}
use Rattle.mt_core.specs.Consistent.{OnlyOperations}
use Rattle.mt_core.specs.Runs.{state_in}
use Rattle.mt_core.specs.Seen.{core_device, core_last, core_pool, core_store}
use Rattle.mt_core.specs.Work.{CallRuns, DrawsNumber}
use Rattle.mt_core.specs.declared.calls.Called.{Called}
use Rattle.mt_core.specs.declared.calls.Called.TheVariants as call
use Rattle.mt_disk.specs.declared.device.Device.{Ghosts}
use Rattle.mt_live.specs.Machine.{State, begun, called}
use Rattle.mt_live.specs.Undoing.{after_first, is_counted, last_effect}
use Rattle.mt_live.specs.declared.transactions.TxnState.TheVariants.{Aborting, Returning}
use Rattle.mt_model.specs.Model.{Base}
use Rattle.mt_model.specs.declared.operations.Op.{Op}
use Rattle.mt_pool.specs.Reads.{ReadsOnce}
use Rattle.mt_pool.specs.Views.{pages}
use Rattle.mt_pool.specs.declared.flushes.Flushed.{Flushed}
use Rattle.mt_txn.specs.Answered.{AnswersAbort, AnswersAbortStep, AnswersBack, AnswersBackStep, AnswersBegin, AnswersCall, AnswersCommit, AnswersFlush, AnswersForce, AnswersSave, AnswersStep}
use Rattle.mt_txn.specs.Causes.{IsSavepoint, is_busy}
use Rattle.mt_txn.specs.Effects.{BeginsUndoing, FlushesPage, KeepsAtForce, LeavesAbort, LeavesReturn, LeavesStep, LogsCommit, MovesAbort, MovesReturn, MovesStep}
use Rattle.mt_txn.specs.Seen.{KernelSeen, ShowsSeen, has_failed_in}
use Rattle.mt_txn.specs.declared.answers.AbortStepped.{AbortStepped}
use Rattle.mt_txn.specs.declared.answers.KernelForced.{KernelForced}
use Rattle.mt_txn.specs.declared.answers.Stepped.{Stepped}

-- what a call that answered this left: only one that is started changes the state
abbrev pub CallsTo : (State → Type 0) → State → ℕ → Op → Result Called Refusal → Type 0
CallsTo Is s t op (Ok call.Started) = Is (called s t op)
CallsTo Is s t op (Ok (call.Wait holder)) = Is s
CallsTo Is s t op (Err why) = Is s

-- ---- what was done

module _ {D : Type 0} (g : Ghosts D) where
  -- it had not failed, and the device failed in no call of it since
  pub record IsFaultless (k n : KernelSeen D) : Type 0 where
    pub before : has_failed_in k ≡ false
    pub unfailed : n.failed ≡ false
    pub faults : g.faults (core_device n.core) ≡ g.faults (core_device k.core)

  -- A kernel that answers 2 has failed then. One that had failed before answers nothing else, and changes nothing. No
  -- fault of the device is answered with anything else.
  abbrev pub ReportsEachFault : {T : Type 0} → KernelSeen D → Result T Refusal → KernelSeen D → Type 0
  ReportsEachFault k (Err DeviceFailed) n = (has_failed_in n ≡ true) × (has_failed_in k ≡ true → n ≡ k)
  ReportsEachFault k (Err why) n = IsFaultless k n
  ReportsEachFault k (Ok x) n = IsFaultless k n

  -- the device was called once at most, and its fault is reported
  pub record AsksDevice {T : Type 0} (k : KernelSeen D) (result : Result T Refusal) (n : KernelSeen D) : Type 0 where
    pub once : g.moment (core_device n.core) ≤ g.moment (core_device k.core) + 1
    pub faults : ReportsEachFault k result n

  -- it was not called at all
  abbrev pub SameDevice : KernelSeen D → KernelSeen D → Type 0
  SameDevice k n = core_device n.core ≡ core_device k.core

  -- no operation has taken a number
  abbrev pub NoneBegan : KernelSeen D → KernelSeen D → Type 0
  NoneBegan k n = core_last n.core ≡ core_last k.core

  -- whatever state it was in
  abbrev pub StaysSeen : KernelSeen D → KernelSeen D → Type 0
  StaysSeen k n = (first : Base) (s : State) → ShowsSeen g first s k → ShowsSeen g first s n

  -- a transaction of this session was begun, under the next number
  pub record DidBegin (k : KernelSeen D) (session : ℕ) (result : Result ℕ Refusal) (n : KernelSeen D) : Type 0 where
    pub answers : AnswersBegin k result n
    pub number : IfOk result (λ txn. txn ≡ k.core.live.begun + 1)
    pub state : (first : Base) (s : State) → ShowsSeen g first s k
        → OnOk result (ShowsSeen g first (begun s session) n)
    pub numbers : NoneBegan k n
    pub device : SameDevice k n

  -- A commit logs its record and no more: the state stays until a force ends, and no device is called.
  pub record DidCommit (k : KernelSeen D) (t : ℕ) (result : Result ℕ Refusal) (n : KernelSeen D) : Type 0 where
    pub answers : AnswersCommit k t result n
    pub logs : LogsCommit k t result n
    pub state : StaysSeen k n
    pub numbers : NoneBegan k n
    pub device : SameDevice k n

  pub record DidAbort (k : KernelSeen D) (t : ℕ) (result : Result (Unit {0}) Refusal) (n : KernelSeen D) : Type 0 where
    pub answers : AnswersAbort k t result n
    pub begins : OnOk result (BeginsUndoing k t Aborting n)
    pub state : StaysSeen k n

  -- an operation that is started has made no step
  pub record DidCall (k : KernelSeen D) (t : ℕ) (op : Op) (result : Result Called Refusal)
      (n : KernelSeen D) : Type 0 where
    pub answers : AnswersCall g k t op result n
    pub runs : CallRuns t (2 * pages (core_pool k.core) + 9) k.core.running.items n.core.running.items result
    pub numbers : DrawsNumber (core_last k.core) k.core.running.items n.core result
    pub store : core_store n.core ≡ core_store k.core
    pub state : (first : Base) (s : State) → ShowsSeen g first s k → CallsTo (λ z. ShowsSeen g first z n) s t op result

  pub record DidStep (k : KernelSeen D) (t : ℕ) (result : Result Stepped Refusal) (n : KernelSeen D) : Type 0 where
    pub answers : AnswersStep g k t result n
    pub moves : MovesStep k t result n
    pub leaves : LeavesStep k result n
    pub reads : ReadsOnce g (core_device k.core) (core_device n.core)
    pub faults : ReportsEachFault k result n

  pub record DidAbortStep (k : KernelSeen D) (t : ℕ) (result : Result AbortStepped Refusal)
      (n : KernelSeen D) : Type 0 where
    pub answers : AnswersAbortStep g k t result n
    pub moves : MovesAbort k t result n
    pub leaves : LeavesAbort k t result n
    pub reads : ReadsOnce g (core_device k.core) (core_device n.core)
    pub faults : ReportsEachFault k result n

  -- so many operations of it count; if none stands, the call is refused with 2
  abbrev pub DidSave : Option (KernelSeen D) → ℕ → Result ℕ Refusal → Type 0
  DidSave None t result = result ≡ Err DeviceFailed
  DidSave (Some k) t result = AnswersSave g k t result

  pub record DidBack (k : KernelSeen D) (t first : ℕ) (result : Result (Unit {0}) Refusal)
      (n : KernelSeen D) : Type 0 where
    pub answers : AnswersBack k t first result n
    pub begins : OnOk result (BeginsUndoing k t (Returning first) n)
    pub savepoint : (base : Base) (s : State) → ShowsSeen g base s k
        → IsSavepoint (length (filter (is_counted t) s.standing)) first result
    pub state : StaysSeen k n

  pub record DidBackStep (k : KernelSeen D) (t : ℕ) (result : Result AbortStepped Refusal)
      (n : KernelSeen D) : Type 0 where
    pub answers : AnswersBackStep g k t result n
    pub moves : MovesReturn k t result n
    pub leaves : LeavesReturn k t result n
    pub reads : ReadsOnce g (core_device k.core) (core_device n.core)
    -- if nothing of it is under way, it is refused memory only if an operation is left to undo
    pub needed : (base : Base) (s : State) (first : ℕ) → ShowsSeen g base s k
        → state_in k.core.live.members t ≡ Some (Returning first) → is_busy k.core t ≡ false
        → result ≡ Err NoMemory → is_some (last_effect t (after_first t first s.standing)) ≡ true
    pub faults : ReportsEachFault k result n

  -- for want of memory nothing is done
  pub record DidForce (k : KernelSeen D) (result : Result KernelForced Refusal) (n : KernelSeen D) : Type 0 where
    pub answers : AnswersForce g k result n
    pub keeps : KeepsAtForce k result n
    pub memory : result ≡ Err NoMemory → n ≡ k
    pub device : AsksDevice k result n

  -- all but pages and device stays as it is
  pub record DidFlush (k : KernelSeen D) (result : Result Flushed Refusal) (n : KernelSeen D) : Type 0 where
    pub answers : AnswersFlush g k result n
    pub flushes : FlushesPage k result n
    pub rest : OnlyOperations k.core n.core
    pub device : AsksDevice k result n
