use Rattle.std.proofs.Common.{◌≡◌, ◌<◌, ◌*◌, ℕ}
use Rattle.mt_disk.specs.Disk.{LeavesOnly}
use Rattle.mt_pool.specs.Images.{slot}
use Rattle.mt_format.specs.Formats.{IsFirstPage, IsShut, Tears}
use Rattle.mt_format.specs.Schemas.{pages_in}
use Rattle.mt_format.proofs.format_calls.write_pages.Given as goal

abbrev pub invariant-loop-number : goal.invariant-loop-number
invariant-loop-number g l = record {
  written : (p : ℕ) → p < l.number → IsFirstPage l.schema p (slot 8192 (g.D.Device.seen l.device) p);
  moments : LeavesOnly g.D.Device.moment g.D.Device.left_since l.fn.device l.device IsShut;
  tears : Tears g.D.Device 8192 (4096 * pages_in l.schema) l.fn.device l.device;
  faults : g.D.Device.faults l.device ≡ g.D.Device.faults l.fn.device;
}
