use Rattle.std.proofs.Common.{rules}
use Rattle.mt_base.proofs.ranges.put_u16.Goals as goal

pub returns-clause-number : goal.returns-clause-number
returns-clause-number c = search rules
