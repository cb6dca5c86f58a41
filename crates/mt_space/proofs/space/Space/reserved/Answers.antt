use Rattle.std.proofs.Common.{rules}
use Rattle.mt_space.proofs.space.Space.reserved.Goals as goal

pub returns-clause-reserved : goal.returns-clause-reserved
returns-clause-reserved c = search rules
