use Rattle.std.proofs.Common.{rules}
use Rattle.mt_plock.proofs.table.PageLocks.ask.Goals as goal

pub returns-after-get-clause-answer : goal.returns-after-get-clause-answer
returns-after-get-clause-answer c = search rules
