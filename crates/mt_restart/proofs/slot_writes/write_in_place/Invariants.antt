use Rattle.std.proofs.Common.{◌≡◌, ◌<◌, ℕ, [], true, false, get_or}
use Rattle.mt_disk.specs.Disk.{Follows, LeavesOnly}
use Rattle.mt_pool.specs.Images.{slot}
use Rattle.mt_restart.specs.Turned.{ButForSlots, OnlySlots}
use Rattle.mt_restart.proofs.slot_writes.write_in_place.Given as goal

abbrev pub invariant-loop-page : goal.invariant-loop-page
invariant-loop-page g l = record {
  written : (p : ℕ) → p < l.page → get_or l.marked p false ≡ true → slot 8192 (g.D.Device.seen l.device) p ≡ get_or l.pages p [];
  slots : OnlySlots l.marked (g.D.Device.seen l.fn.device) (g.D.Device.seen l.device);
  elsewhere : Follows (OnlySlots l.marked) (g.D.Device.may_leave l.fn.device) (g.D.Device.may_leave l.device);
  moments : LeavesOnly g.D.Device.moment g.D.Device.left_since l.fn.device l.device (ButForSlots l.marked (g.D.Device.may_leave l.fn.device));
  quiet : g.D.Device.faults l.device ≡ g.D.Device.faults l.fn.device;
}
