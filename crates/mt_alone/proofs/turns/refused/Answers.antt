use Rattle.std.proofs.Common.{rules}
use Rattle.mt_alone.proofs.turns.refused.Goals as goal

pub returns-in_default : goal.returns-in_default
returns-in_default c = search rules
