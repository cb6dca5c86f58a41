use Rattle.std.proofs.Common.{rules}
use Rattle.mt_base.proofs.limits.step_fits.Goals as goal

pub returns-then-size-ge1 : goal.returns-then-size-ge1
returns-then-size-ge1 c = search rules
