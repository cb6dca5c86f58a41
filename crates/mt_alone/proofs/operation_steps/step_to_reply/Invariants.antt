use Rattle.std.proofs.Common.{◌+◌, ◌≤◌}
use Rattle.mt_core.specs.Work.{steps_in}
use Rattle.mt_model.specs.declared.operations.Op.{Op}
use Rattle.mt_txn.specs.Shown.{SameSchema, StaysRestarting}
use Rattle.mt_alone.specs.Driven.{IsCalling}
use Rattle.mt_model.specs.Backwards.{OpenCalls}
use Rattle.mt_alone.specs.Plays.{Play}
use Rattle.mt_alone.proofs.operation_steps.step_to_reply.Given as goal

abbrev pub invariant-loop-step : goal.invariant-loop-step
invariant-loop-step g l = record {
  calling : (p : Play) (calls : OpenCalls) (op : Op) → IsCalling p l.txn calls op l.initial.kernel → steps_in l.initial.kernel.core.running.items l.txn ≤ 8009
      → IsCalling p l.txn calls op l.kernel × (steps_in l.kernel.core.running.items l.txn + l._step ≤ 8009);
  schema : SameSchema l.initial.kernel l.kernel;
  restarts : StaysRestarting l.initial.kernel l.kernel;
}
