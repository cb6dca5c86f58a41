use Rattle.mt_live.proofs.Keeping.{kept_called}
use Rattle.mt_live.proofs.laws.call_keeps.Goals as goal

pub returns : goal.returns
returns c = kept_called
