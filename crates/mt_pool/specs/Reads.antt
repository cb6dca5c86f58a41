-- What a fetch and a copy of a page do to the device.
use Rattle.std.specs.Prelude.{◌≡◌, ◌≤◌, ◌+◌}
use Rattle.mt_disk.specs.Disk.{LeavesTheSame}
use Rattle.mt_disk.specs.declared.device.Device.{Ghosts}

-- It was called once at most, and only read: nothing on it changed, and a crash may leave just what it might have left
-- before.
pub record ReadsOnce {D : Type 0} (g : Ghosts D) (old new : D) : Type 0 where
  pub once : g.moment new ≤ g.moment old + 1
  pub seen : g.seen new ≡ g.seen old
  pub crash : LeavesTheSame (g.may_leave old) (g.may_leave new)
