use Rattle.std.proofs.Common.{rules}
use Rattle.mt_slots.proofs.Gaps.{no_gap}
use Rattle.mt_slots.proofs.placement.gap.Goals as goal

pub returns-clause-none : goal.returns-clause-none
returns-clause-none c = no_gap c.args.page.now c.args.i c.args.low c.args.bytes (search rules) (search rules)
