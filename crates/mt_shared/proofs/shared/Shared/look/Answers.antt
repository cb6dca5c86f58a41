use Rattle.std.proofs.Common.{rules}
use Rattle.mt_shared.proofs.shared.Shared.look.Goals as goal

pub returns : goal.returns
returns g c = search rules
