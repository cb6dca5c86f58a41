use Rattle.mt_model.specs.declared.operations.Op.{Op}
use Rattle.mt_txn.specs.Shown.{SameSchema, StaysRestarting}
use Rattle.mt_alone.specs.Driven.{IsCalling}
use Rattle.mt_model.specs.Backwards.{OpenCalls}
use Rattle.mt_alone.specs.Plays.{Play}
use Rattle.mt_alone.proofs.DriveLemmas.{StandsBy}
use Rattle.mt_alone.proofs.operation_steps.ask_step.Given as goal

abbrev pub invariant-loop : goal.invariant-loop
invariant-loop g l = record {
  stands : (p : Play) (calls : OpenCalls) (op : Op) → IsCalling p l.txn calls op l.initial.kernel → StandsBy p l.txn calls op l.initial.kernel l.kernel;
  schema : SameSchema l.initial.kernel l.kernel;
  restarts : StaysRestarting l.initial.kernel l.kernel;
}
