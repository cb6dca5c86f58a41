use Rattle.mt_op.proofs.operations.Operations.claim.Goals as goal

pub returns-clause-claimed : goal.returns-clause-claimed
returns-clause-claimed g c = c.claim.ensures.claimed
