use Rattle.mt_live.proofs.Keeping.{kept_ended}
use Rattle.mt_live.proofs.laws.end_keeps.Goals as goal

pub returns : goal.returns
returns c = kept_ended
