use Rattle.std.proofs.Common.{◌≡◌, ◌<◌, false}
use Rattle.mt_disk.specs.Calls.{Meanwhile}
use Rattle.mt_disk.specs.Disk.{Torn, Follows}
use Rattle.mt_log.specs.Area.{ScansWithOrWithout, TornFrom}
use Rattle.mt_log.specs.Words.{LiesOn, seen_of, durable_batches, in_flight, area_start, area_end, area_size, calls_left, has_failed}
use Rattle.mt_log.proofs.first_batch.force_all.Given as goal

-- until the batch is durable, the log differs by the stage alone
abbrev pub invariant-loop : goal.invariant-loop
invariant-loop g l = record {
  on : LiesOn g.D.Device l.log l.device;
  calls : 0 < calls_left l.log;
  well : has_failed l.log ≡ false;
  same : seen_of l.log ≡ record (seen_of l.fn.log) { stage = (seen_of l.log).stage };
  faults : g.D.Device.faults l.device ≡ g.D.Device.faults l.fn.device;
  scans : Meanwhile g.D.Device l.fn.device l.device (ScansWithOrWithout (area_start l.fn.log) (area_end l.fn.log) (durable_batches l.fn.log) (in_flight l.fn.log));
  moments : Meanwhile g.D.Device l.fn.device l.device (TornFrom (g.D.Device.may_leave l.fn.device) (area_start l.fn.log) (area_size l.fn.log));
  elsewhere : Follows (Torn (area_start l.fn.log) (area_size l.fn.log)) (g.D.Device.may_leave l.fn.device) (g.D.Device.may_leave l.device);
  rest : Torn (area_start l.fn.log) (area_size l.fn.log) (g.D.Device.seen l.fn.device) (g.D.Device.seen l.device);
}

abbrev pub decreases-loop : goal.decreases-loop
decreases-loop g l = calls_left l.log
