-- What is there after a rotation.
use Rattle.std.specs.Prelude.{◌≡◌, ℕ, ⊤}
use Rattle.mt_disk.specs.declared.device.Device.{Ghosts}
use Rattle.mt_txn.specs.Shown.{IsFoundIn, kernel_device, kernel_frames}
use Rattle.mt_restart.specs.declared.standing.Standing.{Standing}
use Rattle.mt_restart.specs.declared.standing.Standing.TheVariants.{Stands, Ended}

-- its device
abbrev pub device_at : {D : Type 0} → {g : Ghosts D} → Standing D g → D
device_at (Stands k) = (kernel_device k)
device_at (Ended device) = device

-- a kernel that stands can hold so many pages in frames
abbrev pub HasFrames : {D : Type 0} → {g : Ghosts D} → ℕ → Standing D g → Type 0
HasFrames frames (Stands k) = kernel_frames k ≡ frames
HasFrames frames (Ended device) = ⊤

-- If a kernel stands, a restart finds what some of its first commits lead to, whatever a crash leaves of this device.
abbrev pub IsFoundAfter : {D : Type 0} → {g : Ghosts D} → Standing D g → D → Type 0
IsFoundAfter (Stands k) device = IsFoundIn k device
IsFoundAfter (Ended _) device = ⊤
