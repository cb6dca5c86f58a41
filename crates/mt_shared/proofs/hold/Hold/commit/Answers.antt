use Rattle.std.proofs.Common.{rules}
use Rattle.mt_shared.proofs.hold.Hold.commit.Goals as goal

pub returns-in-Ok-clause-entered : goal.returns-in-Ok-clause-entered
returns-in-Ok-clause-entered g c = search rules
