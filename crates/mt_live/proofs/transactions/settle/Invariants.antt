use Rattle.mt_live.proofs.Noting.{SettledSoFar}
use Rattle.mt_live.proofs.transactions.settle.Given as goal

abbrev pub invariant-loop-role : goal.invariant-loop-role
invariant-loop-role l = SettledSoFar l.first l.left l.role-index l.initial.roles l.roles
