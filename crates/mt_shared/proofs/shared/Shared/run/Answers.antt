use Rattle.std.proofs.Common.{rules}
use Rattle.mt_shared.proofs.shared.Shared.run.Goals as goal

pub returns-clause-ok : goal.returns-clause-ok
returns-clause-ok g c = search rules

pub returns-clause-sized : goal.returns-clause-sized
returns-clause-sized g c = search rules
