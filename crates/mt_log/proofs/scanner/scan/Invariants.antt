use Rattle.std.proofs.Common.{◌≡◌, ◌-◌}
use Rattle.mt_log.specs.Quiet.{OnlyReads}
use Rattle.mt_log.specs.Reading.{HasRead}
use Rattle.mt_log.proofs.scanner.scan.Given as goal

abbrev pub invariant-loop-reading : goal.invariant-loop-reading
invariant-loop-reading g l = record {
  read : HasRead (g.D.Device.seen l.fn.device) l.reading;
  place : l.reading.place ≡ l.place;
  pages : l.reading.pages ≡ l.pages;
  format : l.reading.format ≡ l.fn.format;
  reads : OnlyReads g.D.Device l.fn.device l.device;
  faults : g.D.Device.faults l.device ≡ g.D.Device.faults l.fn.device;
}

abbrev pub decreases-loop-reading : goal.decreases-loop-reading
decreases-loop-reading g l = l.reading.place.end - l.reading.next
