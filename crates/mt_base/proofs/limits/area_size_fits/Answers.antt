use Rattle.std.proofs.Common.{rules}
use Rattle.mt_base.proofs.limits.area_size_fits.Goals as goal

pub returns-then-mib-ge-MIN_AREA_MIB : goal.returns-then-mib-ge-MIN_AREA_MIB
returns-then-mib-ge-MIN_AREA_MIB c = search rules
