use Rattle.std.proofs.Common.{◌≡◌, take}
use Rattle.mt_log.specs.Batch.{joined}
use Rattle.mt_log.specs.Found.{records_of}
use Rattle.mt_explain.specs.Explanations.{unfinished}
use Rattle.mt_explain.proofs.unfinished.unfinished_of.Given as goal

abbrev pub invariant-loop-batch : goal.invariant-loop-batch
invariant-loop-batch l = l.list.items ≡ unfinished (joined (records_of (take l.batch-index l.batches)))
