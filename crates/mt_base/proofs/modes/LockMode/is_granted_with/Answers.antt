use Rattle.std.proofs.Common.{rules}
use Rattle.mt_base.proofs.modes.LockMode.is_granted_with.Goals as goal

pub returns-in-Read-Read : goal.returns-in-Read-Read
returns-in-Read-Read c = search rules
