use Rattle.mt_model.proofs.Commuting.{free_commute}
use Rattle.mt_model.proofs.laws.operations_commute.Goals as goal

pub returns : goal.returns
returns c = free_commute
