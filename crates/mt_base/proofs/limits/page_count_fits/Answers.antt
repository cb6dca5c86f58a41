use Rattle.std.proofs.Common.{rules}
use Rattle.mt_base.proofs.limits.page_count_fits.Goals as goal

pub returns-else-pages-ge-MIN_PAGES : goal.returns-else-pages-ge-MIN_PAGES
returns-else-pages-ge-MIN_PAGES c = search rules
