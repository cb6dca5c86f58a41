use Rattle.mt_live.proofs.Keeping.{kept_undone}
use Rattle.mt_live.proofs.laws.inverse_keeps.Goals as goal

pub returns : goal.returns
returns c = kept_undone
