use Rattle.std.proofs.Common.{rules}
use Rattle.mt_shared.proofs.shared.Shared.abort.Goals as goal

pub returns-clause-gone : goal.returns-clause-gone
returns-clause-gone g c = search rules
