use Rattle.mt_model.proofs.Undo.{base_back, base_effectless, inverse_asks}
use Rattle.mt_model.proofs.laws.inverses_take_back.Goals as goal

pub returns-clause-back : goal.returns-clause-back
returns-clause-back c = base_back

pub returns-clause-nothing : goal.returns-clause-nothing
returns-clause-nothing c = base_effectless

pub returns-clause-asks : goal.returns-clause-asks
returns-clause-asks c = inverse_asks
