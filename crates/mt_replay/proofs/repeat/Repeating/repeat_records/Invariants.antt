use Rattle.std.proofs.Common.{take}
use Rattle.mt_steps.specs.Repeated.{repeat}
use Rattle.mt_replay.specs.Passes.{Repeats}
use Rattle.mt_replay.proofs.repeat.Repeating.repeat_records.Given as goal

abbrev pub invariant-loop-entry : goal.invariant-loop-entry
invariant-loop-entry l = Repeats (λ x. repeat x (take l.entry-index l.records)) l.fn.self l.self
