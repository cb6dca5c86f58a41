-- Runs of device calls that change nothing.
use Rattle.std.specs.Prelude.{◌≡◌, ℕ, List}
use Rattle.mt_disk.specs.declared.device.Device.{Ghosts}
use Rattle.mt_disk.specs.Disk.{LeavesOnly, LeavesTheSame}

-- Nothing on the device changed, and a crash may leave just what it might have left before: it was read, and neither
-- written nor synced.
pub record OnlyReads {D : Type 0} (g : Ghosts D) (old new : D) : Type 0 where
  pub same : g.seen new ≡ g.seen old
  pub crash : LeavesTheSame (g.may_leave old) (g.may_leave new)
  pub moments : LeavesOnly g.moment g.left_since old new (g.may_leave old)

-- Nothing on the device changed, and a crash leaves no more than it might have left before: it was read or synced.
pub record OnlyReadsOrSyncs {D : Type 0} (g : Ghosts D) (old new : D) : Type 0 where
  pub same : g.seen new ≡ g.seen old
  pub less : (c : List ℕ) → g.may_leave new c → g.may_leave old c
  pub moments : LeavesOnly g.moment g.left_since old new (g.may_leave old)
