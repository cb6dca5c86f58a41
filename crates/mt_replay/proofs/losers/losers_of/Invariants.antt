use Rattle.std.proofs.Common.{◌≤◌, drop, length}
use Rattle.std.specs.List.{AllByRecursion}
use Rattle.mt_log.specs.Batch.{joined}
use Rattle.mt_log.specs.Found.{records_of}
use Rattle.mt_replay.specs.Losers.{HasEnded, HasRecorded}
use Rattle.mt_replay.proofs.losers.losers_of.Given as goal

abbrev pub invariant-loop-i : goal.invariant-loop-i
invariant-loop-i l = record {
  inside : l.i ≤ length l.batches;
  outcome : HasRecorded l.pass (joined (records_of (drop l.i l.batches)));
  ended : AllByRecursion (HasEnded l.batches) l.pass.losers.items;
}

abbrev pub decreases-loop-i : goal.decreases-loop-i
decreases-loop-i l = l.i
