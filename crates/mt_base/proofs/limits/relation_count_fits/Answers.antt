use Rattle.std.proofs.Common.{rules}
use Rattle.mt_base.proofs.limits.relation_count_fits.Goals as goal

pub returns-else-relations-ge1 : goal.returns-else-relations-ge1
returns-else-relations-ge1 c = search rules
