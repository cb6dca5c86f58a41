-- What a step of an abort does, and of going back, if nothing forbids it.
use Rattle.std.specs.Prelude.{ℕ, ◌≡◌, ◌≢◌, IfErr, IfOk, None, OnErr, Result, Some, Ok, Err, true}
use Rattle.mt_base.specs.declared.refusal.Refusal.{Refusal}
use Rattle.mt_base.specs.declared.refusal.Refusal.TheVariants.{DeviceFailed, NoMemory}
use Rattle.mt_disk.specs.declared.device.Device.{Ghosts}
use Rattle.mt_core.specs.Consistent.{SameCommits, SameStates, SameStatesBut, SetsState}
use Rattle.mt_core.specs.Runs.{count_in, state_in}
use Rattle.mt_core.specs.Steps.{WantsFrame}
use Rattle.mt_core.specs.Work.{KeepsOthers, undo_steps}
use Rattle.mt_live.specs.Machine.{State}
use Rattle.mt_live.specs.declared.transactions.TxnState.TheVariants.{Open}
use Rattle.mt_log.specs.Words.{durable}
use Rattle.mt_model.specs.Model.{Base}
use Rattle.mt_pool.specs.Views.{pages}
use Rattle.mt_txn.specs.Causes.{IsFault}
use Rattle.mt_txn.specs.Events.{HasAborted, HasReturned, InvertsTo}
use Rattle.mt_txn.specs.Shown.{HidesNoFault, LeavesFound, ReadsDevice, SameSchema, Shows, StaysRestarting, is_failed, kernel_log, kernel_pool}
use Rattle.mt_txn.specs.Work.{IsAbortForOther, LowersUndoing, NoMoreAreLeft, NoneAreLeft}
use Rattle.mt_txn.specs.declared.answers.AbortStepped.{AbortStepped}
use Rattle.mt_txn.specs.declared.answers.AbortStepped.TheVariants.{Ended, Flush}
use Rattle.mt_txn.specs.declared.kernel.Kernel.{Kernel}

module _ {D : Type 0} {g : Ghosts D} where
  -- From kernel k a step that undoes what t did answered this, and left kernel n. So many steps are left at its end, of
  -- which Ends holds; and Leads says what it does in the words of the laws.
  pub record StepsUndoing (AtEnd : ℕ → ℕ → Type 0) (Ends Leads : Type 0) (k : Kernel D g) (t : ℕ)
      (result : Result AbortStepped Refusal) (n : Kernel D g) : Type 0 where
    pub why : IfErr result (λ why. why ≢ NoMemory → IsFault g k.core n.core why)
    pub fails : result ≡ Err DeviceFailed → is_failed n ≡ true
    pub quiet : HidesNoFault k result n
    pub states : IfOk result (λ stepped. stepped ≢ Ended → SameStates k.core n.core)
    pub work : LowersUndoing AtEnd (pages (kernel_pool k)) result (undo_steps k.core t) (undo_steps n.core t)
    pub other : IfOk result (λ stepped. IsAbortForOther k.core.live.members t stepped)
    pub full : result ≡ Ok Flush → WantsFrame k.core n.core
    pub durable : durable (kernel_log n) ≡ durable (kernel_log k)
    pub commits : SameCommits k.core n.core
    pub err_states : OnErr result (SameStates k.core n.core)
    pub ends : result ≡ Ok Ended → Ends
    pub schema : SameSchema k n
    pub restarts : StaysRestarting k n
    pub moments : LeavesFound k n
    pub reads : ReadsDevice k n
    pub others : KeepsOthers t k.core.running.items n.core.running.items
    pub leads : Leads

  -- a step of the abort of t
  abbrev pub StepsAbort : Kernel D g → ℕ → Result AbortStepped Refusal → Kernel D g → Type 0
  StepsAbort k t result n = StepsUndoing NoneAreLeft
      ((state_in n.core.live.members t ≡ None) × SameStatesBut k.core n.core t)
      ((first : Base) (s : State) → Shows first s k → HasAborted first s t result n) k t result n

  -- a step of the inverse of t under way, which does not end what it is of
  abbrev pub StepsInverse : Kernel D g → ℕ → Result AbortStepped Refusal → Kernel D g → Type 0
  StepsInverse k t result n = StepsUndoing NoneAreLeft ⊥
      ((first : Base) (s : State) → Shows first s k
      → InvertsTo (λ z. Shows first z n) s t (state_in k.core.live.members t) result) k t result n

  -- a step of t's going back to its first so many
  abbrev pub StepsReturn : Kernel D g → ℕ → ℕ → Result AbortStepped Refusal → Kernel D g → Type 0
  StepsReturn k t first result n = StepsUndoing NoMoreAreLeft
      (SetsState k.core n.core t (Some Open) × (count_in n.core.live.members t ≡ Some first))
      ((base : Base) (s : State) → Shows base s k → HasReturned base s t first result n) k t result n
