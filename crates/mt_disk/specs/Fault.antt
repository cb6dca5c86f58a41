-- A device that fails from some call on.
use Rattle.std.specs.Prelude.{◌<◌, ◌≡◌, ℕ, ◌-◌, length, Result, IsErr}
use Rattle.mt_disk.specs.Disk.{HasCause}
use Rattle.mt_disk.specs.declared.fault.FaultDevice.{FaultDevice}

-- the device below it
abbrev pub below : {D : Type 0} → FaultDevice D → D
below f = f.device

-- how many calls still go through
abbrev pub good_calls : {D : Type 0} → FaultDevice D → ℕ
good_calls f = f.left

-- how many it has let fail
abbrev pub own_failures : {D : Type 0} → FaultDevice D → ℕ
own_failures f = length f.failures.items

-- A call is counted. It fails without reaching the device below if none was left, and else just
-- if that one fails, whose failures are `before` and `now`.
pub record TakesTurn {D T E : Type 0} (old new : FaultDevice D) (before now : ℕ) (result : Result T E) : Type 0 where
  pub counted : good_calls new ≡ good_calls old - 1
  pub failed : good_calls old ≡ 0 → IsErr result × (below new ≡ below old)
  pub passed : 0 < good_calls old → HasCause before now result
