use Rattle.std.proofs.Common.{◌≤◌, drop, length}
use Rattle.mt_replay.specs.Losers.{PassesRecords}
use Rattle.mt_replay.proofs.losers.LoserPass.pass_batch.Given as goal

abbrev pub invariant-loop-i : goal.invariant-loop-i
invariant-loop-i l = record {
  inside : l.i ≤ length l.batch.records.items;
  passes : PassesRecords l.batch (drop l.i l.batch.records.items) l.fn.self l.self;
}

abbrev pub decreases-loop-i : goal.decreases-loop-i
decreases-loop-i l = l.i
