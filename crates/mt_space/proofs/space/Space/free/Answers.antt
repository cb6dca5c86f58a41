use Rattle.std.proofs.Common.{rules}
use Rattle.mt_space.proofs.space.Space.free.Goals as goal

pub returns : goal.returns
returns c = search rules
