use Rattle.std.proofs.Common.{rules}
use Rattle.mt_base.proofs.limits.key_fits.Goals as goal

pub returns-else-not-is_empty : goal.returns-else-not-is_empty
returns-else-not-is_empty c = search rules
