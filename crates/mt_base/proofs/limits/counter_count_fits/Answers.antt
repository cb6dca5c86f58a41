use Rattle.std.proofs.Common.{rules}
use Rattle.mt_base.proofs.limits.counter_count_fits.Goals as goal

pub returns : goal.returns
returns c = search rules
