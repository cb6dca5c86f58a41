use Rattle.std.proofs.Common.{◌≤◌, drop, length}
use Rattle.mt_replay.specs.Passes.{Lays}
use Rattle.mt_replay.proofs.images.Images.lay_records.Given as goal

abbrev pub invariant-loop-i : goal.invariant-loop-i
invariant-loop-i l = record {
  inside : l.i ≤ length l.records;
  lays : Lays (drop l.i l.records) l.fn.self l.self;
}

abbrev pub decreases-loop-i : goal.decreases-loop-i
decreases-loop-i l = l.i
