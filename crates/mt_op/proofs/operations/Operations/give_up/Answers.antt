use Rattle.std.proofs.Common.{refl}
use Rattle.mt_op.proofs.operations.Operations.give_up.Goals as goal

pub returns : goal.returns
returns g c = record { store = refl }
