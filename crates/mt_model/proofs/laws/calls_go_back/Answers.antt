use Rattle.mt_model.proofs.Returns.{bounds_after, goes_back}
use Rattle.mt_model.proofs.laws.calls_go_back.Goals as goal

pub returns : goal.returns
returns c = goes_back bounds_after
