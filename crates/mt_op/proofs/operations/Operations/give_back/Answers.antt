use Rattle.std.proofs.Common.{arith}
use Rattle.mt_op.proofs.operations.Operations.give_back.Goals as goal

pub returns-clause-claimed : goal.returns-clause-claimed
returns-clause-claimed g c = let given = c.give_back.ensures.given in let enough = c.requires in omega (arith, given, enough)
