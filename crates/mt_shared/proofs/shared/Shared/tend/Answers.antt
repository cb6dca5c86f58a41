use Rattle.std.proofs.Common.{rules}
use Rattle.mt_shared.proofs.shared.Shared.tend.Goals as goal

pub returns-in-Ok-Idle : goal.returns-in-Ok-Idle
returns-in-Ok-Idle g c = search rules
