use Rattle.std.proofs.Common.{rules}
use Rattle.mt_base.proofs.ranges.part_of.Goals as goal

pub returns : goal.returns
returns c = search rules
