-- What is reported of a kernel under the lock: of its log, and of a log that was turned over.
use Rattle.std.specs.Prelude.{◌≡◌, ◌≢◌, ◌⊎◌, ◌<◌, ◌/◌, ℕ, Bool, true, false, List, length, Option, None, Some, Result, Ok, Err, IfErr, IsErr, ⊤}
use Rattle.mt_base.specs.declared.refusal.Refusal.{Refusal}
use Rattle.mt_base.specs.declared.refusal.Refusal.TheVariants.{DeviceFailed}
use Rattle.mt_core.specs.Seen.{core_device, core_log}
use Rattle.mt_disk.specs.declared.device.Device.{Ghosts}
use Rattle.mt_live.specs.Machine.{State}
use Rattle.mt_log.specs.Words.{appended, area_size, used}
use Rattle.mt_model.specs.Views.{base_of}
use Rattle.mt_model.specs.declared.history.Committed.{Committed}
use Rattle.mt_model.specs.declared.tables.Base.{Base}
use Rattle.mt_op.specs.Begun.{AreImages}
use Rattle.mt_restart.specs.Rotated.{HasTurnedOnce, SameParts, early_cause}
use Rattle.mt_locked.specs.Asked.{StaysSeen}
use Rattle.mt_locked.specs.Began.{BeganOn}
use Rattle.mt_restart.specs.TurnFaults.{IsTurnFault}
use Rattle.mt_restart.specs.declared.standing.Standing.{Standing}
use Rattle.mt_restart.specs.declared.standing.Standing.TheVariants.{Stands, Ended}
use Rattle.mt_locked.specs.Seen.{LockedSeen, is_failed_in}
use Rattle.mt_locked.specs.Standings.{KeepsHistory, book_in, kernel_in, left_in}
use Rattle.mt_txn.specs.Seen.{KernelSeen, seen_of}
use Rattle.mt_txn.specs.Shown.{Shows, is_failed, kernel_device, kernel_frames, kernel_log}
use Rattle.mt_txn.specs.declared.kernel.Kernel.{Kernel}
use Rattle.mt_txn.specs.declared.log_use.LogUse.{LogUse}
use Rattle.mt_txn.specs.Turned.{HasNobody}
use Rattle.mt_txn.specs.Words.{kernel_book}

-- a kernel that began on this base has so many bytes of its log's area in use
pub record IsUse {D : Type 0} (g : Ghosts D) (base : Base) (u : LogUse) : Type 0 where
  pub kernel : Kernel D g
  pub began : BeganOn base kernel
  pub used : u.used ≡ used (kernel_log kernel)
  pub size : u.size ≡ area_size (kernel_log kernel)

abbrev pub IsUseOn : {D : Type 0} → Ghosts D → Base → LogUse → Type 0
IsUseOn g base u = ∥ IsUse g base u ∥₁

-- They are those of the kernel that is seen, and there are none if none stands.
abbrev pub IsUseSeen : {D : Type 0} → Option (KernelSeen D) → Option LogUse → Type 0
IsUseSeen None u = u ≡ None
IsUseSeen (Some k) None = ⊥
IsUseSeen (Some k) (Some u) = (u.used ≡ used (core_log k.core)) × (u.size ≡ area_size (core_log k.core))

-- more than half of its log's area is in use
abbrev pub IsHalfUsed : {D : Type 0} → Option (KernelSeen D) → Type 0
IsHalfUsed None = ⊥
IsHalfUsed (Some k) = area_size (core_log k.core) / 2 < used (core_log k.core)

-- A kernel that began on this base had not failed, and nobody lived in it. Its log was turned over once, and the device
-- failed in no call. It goes on as another one, in whatever state it was, with its book and so many frames, and with a
-- log that has no record but its area's images.
pub record IsOneTurn {D : Type 0} (g : Ghosts D) (frames : ℕ) (base : Base) : Type 0 where
  pub was : Kernel D g
  pub began : BeganOn base was
  pub may : early_cause was ≡ None
  pub now : Kernel D g
  pub begins : BeganOn base now
  pub shows : (s : State) → Shows (base_of base) s was → Shows (base_of base) s now
  pub book : kernel_book now ≡ kernel_book was
  pub images : AreImages (appended (kernel_log now))
  pub many : kernel_frames now ≡ frames
  pub once : HasTurnedOnce was now
  pub well : is_failed now ≡ false
  pub quiet : g.faults (kernel_device now) ≡ g.faults (kernel_device was)

abbrev pub HasTurned : {D : Type 0} → Ghosts D → ℕ → Base → Type 0
HasTurned g frames base = ∥ IsOneTurn g frames base ∥₁

-- that kernel is the one that was seen, and goes on as the one that is
abbrev pub TurnsLogOver : {D : Type 0} → Ghosts D → ℕ → Base → Option (KernelSeen D) → Option (KernelSeen D) → Type 0
TurnsLogOver g frames base old new =
    ∥ ((x : IsOneTurn g frames base) × (old ≡ Some (seen_of x.was)) × (new ≡ Some (seen_of x.now))) ∥₁

-- It is too early to turn the log over under a history of so many commits: the book has others, or a transaction is
-- active.
abbrev pub IsTooEarly : {D : Type 0} → {g : Ghosts D} → ℕ → Standing D g → Type 0
IsTooEarly commits (Stands k) = (length (kernel_book k) ≢ commits) ⊎ (HasNobody k → ⊥)
IsTooEarly commits (Ended device) = ⊥

-- a transaction is active in the kernel that is seen
abbrev pub IsBusyIn : {D : Type 0} → Option (KernelSeen D) → Type 0
IsBusyIn None = ⊥
IsBusyIn (Some k) = length k.core.live.members ≢ 0

-- it is too early for what is seen
abbrev pub IsTooEarlyIn : {D : Type 0} → LockedSeen D → Type 0
IsTooEarlyIn l = (length l.book ≢ length l.list) ⊎ IsBusyIn l.kernel

-- the same kernel goes on with the same parts, in whatever state it was, and the device failed in no call
abbrev pub GoesOnAs : {D : Type 0} → Ghosts D → Option (KernelSeen D) → Option (KernelSeen D) → Type 0
GoesOnAs g (Some k) (Some n) = SameParts k n × (n.relations ≡ k.relations) × (n.counters ≡ k.counters)
    × (g.faults (core_device n.core) ≡ g.faults (core_device k.core)) × StaysSeen g k n
GoesOnAs g old left = ⊥

-- What is left if a rotation was refused so: after 2 no kernel goes on, and after 1 and 11 that one does.
abbrev pub IsLeftAfter : {D : Type 0} → Ghosts D → Refusal → Option (KernelSeen D) → Option (KernelSeen D) → Type 0
IsLeftAfter g DeviceFailed old left = is_failed_in left ≡ true
IsLeftAfter g why old left = (is_failed_in left ≡ false) × GoesOnAs g old left

-- A kernel of which no more than a device is left ended as that failed. A device that was left before stays.
abbrev pub IsLostByFault : {D : Type 0} → Ghosts D → Option (KernelSeen D) → Option D → Option D → Type 0
IsLostByFault g None was left = left ≡ was
IsLostByFault g (Some k) was None = ⊤
IsLostByFault g (Some k) was (Some device) = g.faults (core_device k.core) < g.faults device

-- What a rotation to so many frames makes of what stands under a history of so many commits, and what it answers. That
-- history and the book are kept.
pub record IsRotation {D : Type 0} (g : Ghosts D) (commits frames : ℕ) (old new : Standing D g)
    (outcome : Result Bool Refusal) : Type 0 where
  pub keeps : (base : Base) (history : List Committed) → length history ≡ commits
      → KeepsHistory base history old
      → KeepsHistory base history new × (book_in new history ≡ book_in old history)
  pub why : IfErr outcome IsTurnFault
  pub did : outcome ≡ Ok true → (base : Base) (history : List Committed)
      → KeepsHistory base history old → TurnsLogOver g frames base (kernel_in old) (kernel_in new)
  -- if it is too early, nothing is done
  pub early : outcome ≡ Ok false → (new ≡ old) × IsTooEarly commits old
  pub waits : is_failed_in (kernel_in old) ≡ false → IsTooEarly commits old → (outcome ≡ Ok false) × (new ≡ old)
  -- if no more than the device is left, it is refused
  pub gone : kernel_in new ≡ None → IsErr outcome
  pub lost : IsLostByFault g (kernel_in old) (left_in old) (left_in new)
  pub refused : IfErr outcome (λ why. IsLeftAfter g why (kernel_in old) (kernel_in new))
  -- if the device has failed before, nothing is done
  pub failed : is_failed_in (kernel_in old) ≡ true → (outcome ≡ Err DeviceFailed) × (new ≡ old)
