use Rattle.mt_live.proofs.Keeping.{kept_settled}
use Rattle.mt_live.proofs.laws.settle_keeps.Goals as goal

pub returns : goal.returns
returns c = kept_settled
