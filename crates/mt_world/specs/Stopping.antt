-- A device that is stopped after so many calls.
use Rattle.std.specs.Prelude.{◌<◌, ◌≤◌, ◌≡◌, ◌+◌, ℕ, length, Result, IsErr}
use Rattle.mt_disk.specs.Disk.{HasCause}
use Rattle.mt_world.specs.declared.stopping_device.StoppingDevice.{StoppingDevice}

-- the device below it
abbrev pub below : {D : Type 0} → StoppingDevice D → D
below f = f.device

-- how many writes and syncs it takes
abbrev pub calls_until : {D : Type 0} → StoppingDevice D → ℕ
calls_until f = f.meter.limit

-- how many it has taken
abbrev pub taken_by : {D : Type 0} → StoppingDevice D → ℕ
taken_by f = f.meter.taken

-- how many it has let fail
abbrev pub own_failures : {D : Type 0} → StoppingDevice D → ℕ
own_failures f = length f.meter.failures.items

-- A call that is not counted.
pub record SameCount {D : Type 0} (old new : StoppingDevice D) : Type 0 where
  pub limit : calls_until new ≡ calls_until old
  pub taken : taken_by new ≡ taken_by old
  pub failures : own_failures new ≡ own_failures old

-- A write or a sync is counted and reaches the device below, whose failures are `before` and `now`; or it is one too
-- many, fails, and does not.
pub record TakesTurn {D T E : Type 0} (old new : StoppingDevice D) (before now : ℕ) (result : Result T E) : Type 0 where
  pub limit : calls_until new ≡ calls_until old
  pub passed : taken_by old < calls_until old → (taken_by new ≡ taken_by old + 1) × HasCause before now result
  pub stopped : taken_by old ≡ calls_until old → IsErr result × (below new ≡ below old) × (taken_by new ≡ taken_by old)

-- It has taken so many writes and syncs at most, and just so many if it was asked for one more.
pub record StopsAt {D : Type 0} (limit : ℕ) (f : StoppingDevice D) : Type 0 where
  pub within : taken_by f ≤ limit
  pub just : 0 < own_failures f → taken_by f ≡ limit
