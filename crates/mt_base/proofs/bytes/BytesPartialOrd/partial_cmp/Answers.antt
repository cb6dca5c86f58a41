use Rattle.std.proofs.Common.{rules}
use Rattle.mt_base.proofs.bytes.BytesPartialOrd.partial_cmp.Goals as goal

pub returns : goal.returns
returns c = search rules
