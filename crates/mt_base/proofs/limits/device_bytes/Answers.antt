use Rattle.std.proofs.Common.{rules}
use Rattle.mt_base.proofs.limits.device_bytes.Goals as goal

pub returns : goal.returns
returns c = search rules
