use Rattle.std.proofs.Common.{rules}
use Rattle.mt_space.proofs.space.Space.give_back.Goals as goal

pub returns-clause-given : goal.returns-clause-given
returns-clause-given c = search rules
