use Rattle.std.proofs.Common.{rules}
use Rattle.mt_plock.proofs.table.PageLocks.new.Goals as goal

pub returns : goal.returns
returns c = search rules
