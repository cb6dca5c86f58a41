use Rattle.std.proofs.Common.{rules}
use Rattle.mt_base.proofs.limits.counter_fits.Goals as goal

pub returns-else-start-high : goal.returns-else-start-high
returns-else-start-high c = search rules
