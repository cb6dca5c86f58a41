-- What stands under the lock: a kernel, or the device that a rotation left of it.
use Rattle.std.specs.Prelude.{◌≡◌, ◌++◌, ◌-◌, ℕ, List, Option, Some, None, ⊤}
use mathlib.Core.List.{IsPrefix}
use Rattle.mt_core.specs.Seen.{core_device}
use Rattle.mt_disk.specs.declared.device.Device.{Ghosts}
use Rattle.mt_model.specs.History.{after}
use Rattle.mt_model.specs.Views.{base_of}
use Rattle.mt_model.specs.declared.history.Committed.{Committed}
use Rattle.mt_model.specs.declared.tables.Base.{Base}
use Rattle.mt_replay.specs.Stands.{CanRestart}
use Rattle.mt_restart.specs.declared.standing.Standing.{Standing}
use Rattle.mt_restart.specs.declared.standing.Standing.TheVariants.{Stands, Ended}
use Rattle.mt_mark.specs.Rule.{dones}
use Rattle.mt_mark.specs.declared.view.View.{View}
use Rattle.mt_locked.specs.Began.{BeganOn}
use Rattle.mt_txn.specs.Seen.{KernelSeen, seen_of}
use Rattle.mt_txn.specs.Words.{kernel_book}
use Rattle.mt_locked.specs.Seen.{LockedSeen}
use Rattle.mt_locked.specs.declared.locked.Due.{Due}

-- A restart finds in these bytes what this book leads to from this base, or the book and some further commits.
pub record HasBook (base : Base) (book : List Committed) (c : List ℕ) : Type 0 where
  pub relations : ℕ
  pub counters : ℕ
  pub further : List Committed
  pub found : CanRestart relations counters c (after (base_of base) (book ++ further))

-- and so whatever a crash leaves of a device
abbrev pub LeavesBook : {D : Type 0} → Ghosts D → Base → List Committed → D → Type 0
LeavesBook g base book device = (c : List ℕ) → g.may_leave device c → ∥ HasBook base book c ∥₁

-- the kernel's book; or the history, if none stands
abbrev pub book_in : {D : Type 0} → {g : Ghosts D} → Standing D g → List Committed → List Committed
book_in (Stands k) history = (kernel_book k)
book_in (Ended device) history = history

-- A kernel began on this base, and its book begins with this history. Of a device that is left alone, a crash leaves
-- the history.
abbrev pub KeepsHistory : {D : Type 0} → {g : Ghosts D} → Base → List Committed → Standing D g → Type 0
KeepsHistory base history (Stands k) = BeganOn base k × IsPrefix history (book_in (Stands k) history)
KeepsHistory {g = g} base history (Ended device) = LeavesBook g base history device

-- the kernel as it is seen, if one stands
abbrev pub kernel_in : {D : Type 0} → {g : Ghosts D} → Standing D g → Option (KernelSeen D)
kernel_in (Stands k) = Some (seen_of k)
kernel_in (Ended device) = None

-- the device that is left, if none stands
abbrev pub left_in : {D : Type 0} → {g : Ghosts D} → Standing D g → Option D
left_in (Stands k) = None
left_in (Ended device) = Some device

-- what contracts see of it, beside what its end of the mark knows, with who holds back and what is due
abbrev pub seen_in : {D : Type 0} → {g : Ghosts D} → Standing D g → View → ℕ → Due → LockedSeen D
seen_in standing v holding due = record {
  kernel = kernel_in standing;
  left = left_in standing;
  book = book_in standing (dones v.list);
  list = v.list;
  pass_count = v.made - 1;
  holding = holding;
  due = due;
}

-- it is the device of the kernel that is seen, or else the one that is left
abbrev pub IsDeviceOf : {D : Type 0} → Option (KernelSeen D) → Option D → D → Type 0
IsDeviceOf None left device = left ≡ Some device
IsDeviceOf (Some k) left device = device ≡ core_device k.core

abbrev pub IsDeviceSeen : {D : Type 0} → LockedSeen D → D → Type 0
IsDeviceSeen l device = IsDeviceOf l.kernel l.left device
