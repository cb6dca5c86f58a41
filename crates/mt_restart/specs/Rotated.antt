-- A kernel whose log is turned over.
use Rattle.std.specs.Prelude.{◌≡◌, ◌⊎◌, ◌<◌, ◌++◌, true, false, List, Option, None, Some, Result, Ok, Err}
use Rattle.mt_base.specs.declared.refusal.Refusal.{Refusal}
use Rattle.mt_base.specs.declared.refusal.Refusal.TheVariants.{NoMemory, DeviceFailed, LogFull}
use Rattle.mt_disk.specs.declared.device.Device.{Ghosts}
use Rattle.mt_frame.specs.declared.records.Record.{Record}
use Rattle.mt_log.specs.NextSlot.{next_slot}
use Rattle.mt_log.specs.Words.{appended, durable}
use Rattle.mt_core.specs.Seen.{core_last, core_log, core_pool, core_ruling}
use Rattle.mt_live.specs.Machine.{State}
use Rattle.mt_model.specs.Model.{Base}
use Rattle.mt_op.specs.Begun.{AreImages}
use Rattle.mt_txn.specs.Seen.{KernelSeen, seen_of}
use Rattle.mt_txn.specs.Shown.{LeavesFound, Restarts, SameSchema, Stays, StaysRestarting, Shows, is_failed, kernel_device, kernel_log, kernel_ruling}
use Rattle.mt_txn.specs.Turned.{HasNobody, IsForced}
use Rattle.mt_txn.specs.declared.kernel.Kernel.{Kernel}
use Rattle.mt_txn.specs.Words.{kernel_survey_cause}
use Rattle.mt_restart.specs.Recovered.{CannotTurn}
use Rattle.mt_restart.specs.declared.standing.Standing.{Standing}
use Rattle.mt_restart.specs.declared.standing.Standing.TheVariants.{Stands, Ended}

-- The pages in frames stay, each as clean or dirty as it was. The same slot rules, no record is appended and no
-- operation has taken a number.
pub record SameParts {D : Type 0} (k n : KernelSeen D) : Type 0 where
  pub pool : core_pool n.core ≡ core_pool k.core
  pub ruling : core_ruling n.core ≡ core_ruling k.core
  pub appended : appended (core_log n.core) ≡ appended (core_log k.core)
  pub numbers : core_last n.core ≡ core_last k.core

-- in the state in which it was, with the same parts, and found so by a restart whenever a crash came
pub record Keeps {D : Type 0} {g : Ghosts D} (k n : Kernel D g) : Type 0 where
  pub state : Stays k n
  pub parts : SameParts (seen_of k) (seen_of n)
  pub restarts : StaysRestarting k n
  pub schema : SameSchema k n
  pub found : LeavesFound k n

-- what was durable is so still, and more may be
abbrev pub Grows : {D : Type 0} {g : Ghosts D} → Kernel D g → Kernel D g → Type 0
Grows k n = (more : List Record) × (durable (kernel_log n) ≡ durable (kernel_log k) ++ more)

-- it has not failed, no transaction is active, all that was appended is durable, and the same slot rules
pub record IsForcedOut {D : Type 0} {g : Ghosts D} (k n : Kernel D g) : Type 0 where
  pub well : is_failed n ≡ false
  pub nobody : HasNobody n
  pub forced : IsForced n
  pub grows : Grows k n
  pub ruling : kernel_ruling n ≡ kernel_ruling k

-- ---- why it is not turned over

-- why nothing is done with a kernel: its device has failed, or a transaction is active
abbrev pub early_cause : {D : Type 0} {g : Ghosts D} → Kernel D g → Option Refusal
early_cause k = kernel_survey_cause k

-- Why the kernel is left after that: its device failed in the force, and each later call is refused with 2; or memory
-- was wanting, or its log cannot turn over, and it goes on.
abbrev pub IsKeptCause : {D : Type 0} {g : Ghosts D} → Kernel D g → Refusal → Type 0
IsKeptCause n DeviceFailed = is_failed n ≡ true
IsKeptCause n NoMemory = is_failed n ≡ false
IsKeptCause {g = g} n LogFull = (is_failed n ≡ false) × CannotTurn (g.seen (kernel_device n))
IsKeptCause n _ = ⊥

-- ---- what comes of a rotation

-- whatever state the kernel was in, and whatever base it began on, the other goes on so
pub record GoesOver {D : Type 0} {g : Ghosts D} (k n : Kernel D g) : Type 0 where
  pub state : (first : Base) (s : State) → Restarts first k → Shows first s k → Shows first s n
  pub restarts : StaysRestarting k n
  pub schema : SameSchema k n

-- the slot that rules the device of n is the next one after that of k, with an epoch one higher
abbrev pub HasTurnedOnce : {D : Type 0} {g : Ghosts D} → Kernel D g → Kernel D g → Type 0
HasTurnedOnce k n = kernel_ruling n ≡ next_slot (kernel_ruling k)

-- The log was turned over, once. The laws see nothing of it. The log has no record but the images that its area began
-- with, and the device failed in no call.
pub record IsRotated {D : Type 0} {g : Ghosts D} (k n : Kernel D g) : Type 0 where
  pub may : early_cause k ≡ None
  pub over : GoesOver k n
  pub begun : AreImages (appended (kernel_log n))
  pub well : is_failed n ≡ false
  pub once : HasTurnedOnce k n
  pub quiet : g.faults (kernel_device n) ≡ g.faults (kernel_device k)

-- It was not, for this cause, and the kernel is left in its state; as it was, if nothing was done. The device failed in
-- no call unless the cause is 2.
pub record IsLeft {D : Type 0} {g : Ghosts D} (k : Kernel D g) (why : Refusal) (n : Kernel D g) : Type 0 where
  pub keeps : Keeps k n
  pub cause : (early_cause k ≡ Some why) × (n ≡ k) ⊎ ((early_cause k ≡ None) × IsKeptCause n why)
  pub quiet : (why ≡ DeviceFailed → ⊥) → g.faults (kernel_device n) ≡ g.faults (kernel_device k)

-- The device failed while it was recovered, and is left alone. The force before that went well.
pub record IsEnded {D : Type 0} {g : Ghosts D} (k : Kernel D g) (device : D) : Type 0 where
  pub may : early_cause k ≡ None
  pub forced : (n : Kernel D g) × IsForcedOut k n × (g.faults (kernel_device n) ≡ g.faults (kernel_device k))
  pub failed : g.faults (kernel_device k) < g.faults device

-- what stands after a rotation, by its answer
abbrev pub Rotates : {D : Type 0} {g : Ghosts D} → Kernel D g → Standing D g → Result (Unit {0}) Refusal → Type 0
Rotates k (Stands n) (Ok u) = IsRotated k n
Rotates k (Stands n) (Err why) = IsLeft k why n
Rotates k (Ended device) (Ok u) = ⊥
Rotates k (Ended device) (Err why) = (why ≡ DeviceFailed) × IsEnded k device
