-- Why an event is answered as it is, and whose state of a transaction it sets.
use Rattle.std.specs.Prelude.{ℕ, ◌≡◌, ◌⊎◌, ◌+◌, List, [], ◌∷◌, ◌++◌, length, true, Option, Some, None, Ok, Err, ⊤}
use Rattle.mt_base.specs.declared.refusal.Refusal.{Refusal}
use Rattle.mt_base.specs.declared.refusal.Refusal.TheVariants as refusal
use Rattle.mt_disk.specs.declared.device.Device.{Ghosts}
use Rattle.mt_core.specs.declared.parts.Commit.{Commit as CommitUnderWay}
use Rattle.mt_live.specs.Sound.{Each}
use Rattle.mt_live.specs.declared.transactions.TxnState.TheVariants as state
use Rattle.mt_log.specs.Words.{appended, durable}
use Rattle.mt_op.specs.Begun.{AreImages}
use Rattle.mt_pool.specs.Views.{Cleans, IsWaiting, AreClean}
use Rattle.mt_pool.specs.declared.flushes.Flushed.{Flushed as FlushOutcome}
use Rattle.mt_pool.specs.declared.flushes.Flushed.TheVariants as flush
use Rattle.mt_restart.specs.Rotated.{IsKeptCause, early_cause}
use Rattle.mt_txn.specs.Effects.{MovesAbort, MovesReturn, MovesStep}
use Rattle.mt_txn.specs.Events.{IsAnsweredBy, IsForcedBy}
use Rattle.mt_txn.specs.Seen.{seen_of}
use Rattle.mt_txn.specs.Shown.{CallsOnce, ReadsDevice, is_failed, kernel_device, kernel_log, kernel_pool}
use Rattle.mt_txn.specs.declared.answers.AbortStepped.{AbortStepped}
use Rattle.mt_txn.specs.declared.answers.AbortStepped.TheVariants as abort
use Rattle.mt_txn.specs.declared.answers.Stepped.{Stepped as StepOutcome}
use Rattle.mt_txn.specs.declared.kernel.Kernel.{Kernel}
use Rattle.mt_txn.specs.Words.{kernel_book, kernel_commits, kernel_count, kernel_state, kernel_begin_cause, kernel_call_cause, kernel_step_cause, kernel_commit_cause, kernel_abort_begin_cause, kernel_abort_cause, kernel_back_cause, kernel_return_cause, IsKernelFault, IsKernelFailure, StatesStay, StatesStayBut, UncommittedStay, StateIsSet, CommitsStay}
use Rattle.mt_world.specs.declared.events.Answer.{Answer}
use Rattle.mt_world.specs.declared.events.Answer.TheVariants.{Begun, Called, Stepped, Committing, Aborting, Undone, Returning, Returned, Forced, Flushed, Rotated, Refused}
use Rattle.mt_world.specs.declared.events.Event.{Event}
use Rattle.mt_world.specs.declared.events.Event.TheVariants.{Begin, Call, Step, Commit, AbortBegin, AbortStep, Back, BackStep, Force, Flush, Rotate}

-- ---- why

-- for want of memory, or for this cause
abbrev pub IsCaused : Option Refusal → Refusal → Type 0
IsCaused cause why = (why ≡ refusal.NoMemory) ⊎ (cause ≡ Some why)

module _ {D : Type 0} {g : Ghosts D} where
  -- a step of an operation
  pub record IsStepped (k : Kernel D g) (t : ℕ) (outcome : StepOutcome) (n : Kernel D g) : Type 0 where
    pub may : kernel_step_cause k t ≡ None
    pub moves : MovesStep (seen_of k) t (Ok outcome) (seen_of n)

  -- of an abort
  pub record IsAbortStepped (k : Kernel D g) (t : ℕ) (outcome : AbortStepped) (n : Kernel D g) : Type 0 where
    pub may : kernel_abort_cause k t ≡ None
    pub moves : MovesAbort (seen_of k) t (Ok outcome) (seen_of n)

  -- And of going back. Once that ends, the operations count that it went back to.
  pub record IsReturned (k : Kernel D g) (t : ℕ) (outcome : AbortStepped) (n : Kernel D g) : Type 0 where
    pub may : kernel_return_cause k t ≡ None
    pub moves : MovesReturn (seen_of k) t (Ok outcome) (seen_of n)
    pub count : (first : ℕ) → kernel_state k t ≡ Some (state.Returning first) → outcome ≡ abort.Ended
        → kernel_count n t ≡ Some first

  -- a page was written, each page waits for the log, or there is none to be written
  abbrev pub IsFlushed : Kernel D g → FlushOutcome → Kernel D g → Type 0
  IsFlushed k (flush.Page p) n = Cleans (kernel_pool k) (kernel_pool n) (length (durable (kernel_log k))) p
  IsFlushed k flush.Force n = IsWaiting (kernel_pool k) (length (durable (kernel_log k)))
  IsFlushed k flush.Clean n = AreClean (kernel_pool n)

  -- nothing was in the way, and the log has no record but the images that its area began with
  pub record IsTurnedOver (k n : Kernel D g) : Type 0 where
    pub may : early_cause k ≡ None
    pub fresh : AreImages (appended (kernel_log n))

module _ {D : Type 0} {g : Ghosts D} where
  -- The answer is due to the kernel: a refusal has its cause, or memory was wanting, or the device failed in the
  -- call; what is not refused had no cause to be, and answers what was done.
  abbrev pub IsDue : Kernel D g → Event → Answer → Kernel D g → Type 0
  IsDue k (Begin session) (Refused why) n = IsCaused (kernel_begin_cause k) why
  IsDue k (Begin session) answer n = kernel_begin_cause k ≡ None
  IsDue k (Call t op) (Refused why) n =
      IsCaused (kernel_call_cause k t op) why ⊎ ((kernel_call_cause k t op ≡ None) × IsAnsweredBy k t op (Err why))
  IsDue k (Call t op) (Called called) n = (kernel_call_cause k t op ≡ None) × IsAnsweredBy k t op (Ok called)
  IsDue k (Call t op) answer n = ⊥
  IsDue k (Step t) (Refused why) n = IsCaused (kernel_step_cause k t) why ⊎ IsKernelFault k n why
  IsDue k (Step t) (Stepped outcome) n = IsStepped k t outcome n
  IsDue k (Step t) answer n = ⊥
  IsDue k (Commit t) (Refused why) n = IsCaused (kernel_commit_cause k t) why
  IsDue k (Commit t) (Committing place) n =
      (kernel_commit_cause k t ≡ None) × (place ≡ length (kernel_book k) + length (kernel_commits k) + 1)
  IsDue k (Commit t) answer n = ⊥
  IsDue k (AbortBegin t) (Refused why) n = kernel_abort_begin_cause k t ≡ Some why
  IsDue k (AbortBegin t) answer n = kernel_abort_begin_cause k t ≡ None
  IsDue k (AbortStep t) (Refused why) n = IsCaused (kernel_abort_cause k t) why ⊎ IsKernelFault k n why
  IsDue k (AbortStep t) (Undone outcome) n = IsAbortStepped k t outcome n
  IsDue k (AbortStep t) answer n = ⊥
  IsDue k (Back t first) (Refused why) n = kernel_back_cause k t first ≡ Some why
  IsDue k (Back t first) answer n = kernel_back_cause k t first ≡ None
  IsDue k (BackStep t) (Refused why) n = IsCaused (kernel_return_cause k t) why ⊎ IsKernelFault k n why
  IsDue k (BackStep t) (Returned outcome) n = IsReturned k t outcome n
  IsDue k (BackStep t) answer n = ⊥
  IsDue k Force (Refused why) n = (why ≡ refusal.NoMemory) ⊎ IsKernelFailure k n why
  IsDue k Force (Forced outcome) n =
      IsForcedBy (kernel_log k) (kernel_commits k) outcome (kernel_log n) (kernel_commits n)
  IsDue k Force answer n = ⊥
  IsDue k Flush (Refused why) n = IsKernelFailure k n why
  IsDue k Flush (Flushed outcome) n = IsFlushed k outcome n
  IsDue k Flush answer n = ⊥
  IsDue k Rotate (Refused why) n = (early_cause k ≡ Some why) × (n ≡ k) ⊎ ((early_cause k ≡ None) × IsKeptCause n why)
  IsDue k Rotate Rotated n = IsTurnedOver k n
  IsDue k Rotate answer n = ⊥

-- ---- what is in memory

module _ {D : Type 0} {g : Ghosts D} where
  -- A step reads the device, and a force and a flush call it, once at most. A rotation calls it as often as it has to,
  -- and no other event does.
  abbrev pub CallsAtEvent : Kernel D g → Event → Kernel D g → Type 0
  CallsAtEvent k (Step t) n = ReadsDevice k n
  CallsAtEvent k (AbortStep t) n = ReadsDevice k n
  CallsAtEvent k (BackStep t) n = ReadsDevice k n
  CallsAtEvent k Force n = CallsOnce k n
  CallsAtEvent k Flush n = CallsOnce k n
  CallsAtEvent k Rotate n = ⊤
  CallsAtEvent k event n = kernel_device n ≡ kernel_device k

-- ---- which transactions are open, commit, go back or are to be undone

module _ {D : Type 0} {g : Ghosts D} where
  -- each as before, and the same commits under way
  abbrev pub SamePhases : Kernel D g → Kernel D g → Type 0
  SamePhases k n = StatesStay k n × CommitsStay k n

  -- a commit of the transaction is under way after the others
  abbrev pub IsQueued : Kernel D g → ℕ → Kernel D g → Type 0
  IsQueued k t n = (c : CommitUnderWay) × (c.txn ≡ t) × (kernel_commits n ≡ kernel_commits k ++ c ∷ [])

  -- An event sets the state of its own transaction; a force only those of transactions that commit.
  abbrev pub SetsPhases : Kernel D g → Event → Answer → Kernel D g → Type 0
  SetsPhases k (Begin session) (Begun t) n = StateIsSet k n t (Some state.Open) × CommitsStay k n
  SetsPhases k (Commit t) (Committing place) n = StateIsSet k n t (Some state.Committing) × IsQueued k t n
  SetsPhases k (AbortBegin t) Aborting n = StateIsSet k n t (Some state.Aborting) × CommitsStay k n
  SetsPhases k (AbortStep t) (Undone abort.Ended) n = (kernel_state n t ≡ None) × StatesStayBut k n t × CommitsStay k n
  SetsPhases k (Back t first) Returning n = StateIsSet k n t (Some (state.Returning first)) × CommitsStay k n
  SetsPhases k (BackStep t) (Returned abort.Ended) n = StateIsSet k n t (Some state.Open) × CommitsStay k n
  SetsPhases k Force (Forced outcome) n = UncommittedStay k n
  SetsPhases k event answer n = SamePhases k n

-- ---- once the device has failed

abbrev pub IsBroken : Answer → Type 0
IsBroken answer = answer ≡ Refused refusal.DeviceFailed

-- after the first refusal 2 each answer is that
abbrev pub StayBroken : List Answer → Type 0
StayBroken [] = ⊤
StayBroken (answer ∷ answers) = (IsBroken answer → Each IsBroken answers) × StayBroken answers

module _ {D : Type 0} {g : Ghosts D} where
  -- a kernel that has failed refuses an event with 2, and stays as it is; one that refuses with 2 has failed
  abbrev pub FailsIn : Kernel D g → Answer → Kernel D g → Type 0
  FailsIn k answer n = (is_failed k ≡ true → IsBroken answer × (n ≡ k)) × (IsBroken answer → is_failed n ≡ true)
