use Rattle.std.proofs.Common.{◌≡◌, ◌≤◌, ◌+◌, ℕ}
use Rattle.mt_disk.specs.Disk.{LeavesTheSame}
use Rattle.mt_op.specs.Operations.{IsRight, world}
use Rattle.mt_op.specs.Surveyed.{OnlyReads}
use Rattle.mt_op.specs.World.{held_in}
use Rattle.mt_space.specs.Changes.{PageBytes}
use Rattle.mt_steps.specs.Listed.{HasListed}
use Rattle.mt_op.proofs.operations.Operations.list_pages.Given as goal

abbrev pub invariant-loop-number : goal.invariant-loop-number
invariant-loop-number g l = record {
  listed : (opening : PageBytes) (relations counters : ℕ) → IsRight g.D.Device opening relations counters l.initial.self
      → HasListed (held_in (world g.D.Device opening l.initial.self)) l.number l.rows.items;
  read : OnlyReads g.D.Device l.initial.self l.self;
  crash : LeavesTheSame (g.D.Device.may_leave l.initial.self.store.device) (g.D.Device.may_leave l.self.store.device);
  quiet : g.D.Device.faults l.self.store.device ≡ g.D.Device.faults l.initial.self.store.device;
  calls : g.D.Device.moment l.self.store.device ≤ g.D.Device.moment l.initial.self.store.device + l.number;
}
