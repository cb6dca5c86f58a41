use Rattle.std.proofs.Common.{◌≡◌}
use Rattle.mt_op.proofs.operations.Operations.into_device.Given as goal

abbrev pub invariant-loop-scope : goal.invariant-loop-scope
invariant-loop-scope g l = l.operations.store ≡ l.fn.self.store

abbrev pub decreases-loop-scope : goal.decreases-loop-scope
decreases-loop-scope g l = goal.left-loop-scope g l
