use Rattle.std.proofs.Common.{rules}
use Rattle.mt_shared.proofs.hold.Hold.begin.Goals as goal

pub returns-clause-token : goal.returns-clause-token
returns-clause-token g c = search rules
