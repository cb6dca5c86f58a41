use Rattle.std.proofs.Common.{rules}
use Rattle.mt_bucket.proofs.heads.depth.Goals as goal

pub returns : goal.returns
returns c = search rules
