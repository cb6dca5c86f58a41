use Rattle.std.proofs.Common.{rules}
use Rattle.mt_model.proofs.operations.Op.try_clone.Goals as goal

pub returns-in-Add : goal.returns-in-Add
returns-in-Add c = search rules
