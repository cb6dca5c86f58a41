use Rattle.mt_live.proofs.Witness.{takes_place}
use Rattle.mt_live.proofs.laws.a_run_takes_place.Goals as goal

pub returns : goal.returns
returns c = takes_place
