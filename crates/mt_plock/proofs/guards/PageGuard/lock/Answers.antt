use Rattle.std.proofs.Common.{rules}
use Rattle.mt_plock.proofs.guards.PageGuard.lock.Goals as goal

pub returns : goal.returns
returns c = search rules
