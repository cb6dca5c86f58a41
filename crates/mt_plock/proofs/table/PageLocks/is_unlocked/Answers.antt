use Rattle.std.proofs.Common.{rules}
use Rattle.mt_plock.proofs.table.PageLocks.is_unlocked.Goals as goal

pub returns : goal.returns
returns c = search rules
