use Rattle.mt_live.proofs.Keeping.{kept_begun}
use Rattle.mt_live.proofs.laws.begin_keeps.Goals as goal

pub returns : goal.returns
returns c = kept_begun
