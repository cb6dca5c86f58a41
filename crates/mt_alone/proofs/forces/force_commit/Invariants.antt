use Rattle.std.proofs.Common.{◌-◌}
use Rattle.mt_txn.specs.Shown.{SameSchema, StaysRestarting}
use Rattle.mt_alone.specs.Driven.{IsEnding}
use Rattle.mt_model.specs.Backwards.{OpenCalls}
use Rattle.mt_alone.specs.Plays.{Play}
use Rattle.mt_alone.proofs.forces.force_commit.Given as goal

abbrev pub invariant-loop-step : goal.invariant-loop-step
invariant-loop-step g l = record {
  due : (p : Play) (calls : OpenCalls) → IsEnding p l.txn calls 8 l.initial.kernel → IsEnding p l.txn calls (8 - l._step) l.kernel;
  schema : SameSchema l.initial.kernel l.kernel;
  restarts : StaysRestarting l.initial.kernel l.kernel;
}
