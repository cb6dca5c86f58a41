use Rattle.std.proofs.Common.{◌≡◌, ◌+◌, drop, length}
use Rattle.std.specs.Prelude.{count_by}
use Rattle.mt_log.specs.Batch.{joined}
use Rattle.mt_log.specs.Found.{records_of}
use Rattle.mt_replay.specs.Figures.{is_commit}
use Rattle.mt_replay.proofs.figures.figures_of.Given as goal

abbrev pub invariant-loop-batch : goal.invariant-loop-batch
invariant-loop-batch l = record {
  records : l.records + length (joined (records_of (drop l.batch-index l.batches))) ≡ length (joined (records_of l.batches));
  commits : l.commits + count_by is_commit (joined (records_of (drop l.batch-index l.batches))) ≡ count_by is_commit (joined (records_of l.batches));
}
