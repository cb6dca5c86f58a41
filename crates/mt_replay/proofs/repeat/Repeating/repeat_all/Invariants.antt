use Rattle.std.proofs.Common.{take}
use Rattle.mt_log.specs.Batch.{joined}
use Rattle.mt_log.specs.Found.{records_of}
use Rattle.mt_steps.specs.Repeated.{repeat}
use Rattle.mt_replay.specs.Passes.{Repeats}
use Rattle.mt_replay.proofs.repeat.Repeating.repeat_all.Given as goal

abbrev pub invariant-loop-batch : goal.invariant-loop-batch
invariant-loop-batch l = Repeats (λ x. repeat x (joined (records_of (take l.batch-index l.batches)))) l.fn.self l.self
