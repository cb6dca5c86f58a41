use Rattle.std.proofs.Common.{rules}
use Rattle.mt_base.proofs.bytes.BytesHash.hash.Goals as goal

pub returns : goal.returns
returns g c = search rules
