use Rattle.std.proofs.Common.{rules}
use Rattle.mt_shared.proofs.shared.Shared.used.Goals as goal

pub returns : goal.returns
returns g c = search rules
