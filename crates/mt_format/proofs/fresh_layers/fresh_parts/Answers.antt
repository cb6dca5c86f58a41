use Rattle.std.proofs.Common.{◌∙◌, ap}
use Rattle.mt_format.proofs.fresh_layers.fresh_parts.Goals as goal

pub returns-clause-short : goal.returns-clause-short
returns-clause-short g c = λ short. let is = c.in-Ok-format.is in let no = (c.format.ensures.short short).0 in absurd cc

pub returns-clause-frames : goal.returns-clause-frames
returns-clause-frames g c = c.first_operations-operations.ensures.frames c.args.frames c.in-Ok.ensures.layers.pool

pub returns-clause-quiet : goal.returns-clause-quiet
returns-clause-quiet g c = ap g.D.Device.faults c.first_operations-operations.ensures.device ∙ c.in-Ok-format.ensures.quiet
