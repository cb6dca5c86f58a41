use Rattle.std.proofs.Common.{rules}
use Rattle.mt_base.proofs.limits.value_fits.Goals as goal

pub returns : goal.returns
returns c = search rules
