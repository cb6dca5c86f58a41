use Rattle.mt_live.proofs.Keeping.{kept_returned}
use Rattle.mt_live.proofs.laws.return_keeps.Goals as goal

pub returns : goal.returns
returns c = kept_returned
