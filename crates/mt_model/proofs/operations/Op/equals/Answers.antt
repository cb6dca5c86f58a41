use Rattle.std.proofs.Common.{rules}
use Rattle.mt_model.proofs.operations.Op.equals.Goals as goal

pub returns-then-eq-7 : goal.returns-then-eq-7
returns-then-eq-7 c = search rules
