use Rattle.std.proofs.Common.{◌≤◌, drop, length}
use Rattle.mt_replay.specs.Passes.{Backs}
use Rattle.mt_replay.proofs.repeat.TakingBack.pass_records.Given as goal

abbrev pub invariant-loop-i : goal.invariant-loop-i
invariant-loop-i l = record {
  inside : l.i ≤ length l.records;
  back : Backs (drop l.i l.records) l.fn.self l.self;
}

abbrev pub decreases-loop-i : goal.decreases-loop-i
decreases-loop-i l = l.i
