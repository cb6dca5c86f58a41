use Rattle.std.proofs.Common.{◌+◌, ◌≤◌}
use Rattle.mt_core.specs.Work.{undo_steps}
use Rattle.mt_txn.specs.Shown.{SameSchema, StaysRestarting}
use Rattle.mt_alone.specs.Driven.{IsGoing}
use Rattle.mt_alone.specs.Plays.{Play}
use Rattle.mt_alone.proofs.operation_steps.undo.Given as goal

abbrev pub invariant-loop-step : goal.invariant-loop-step
invariant-loop-step g l = record {
  going : (p : Play) → IsGoing p l.txn l.initial.kernel → undo_steps l.initial.kernel.core l.txn ≤ 5054310
      → IsGoing p l.txn l.kernel × (undo_steps l.kernel.core l.txn + l._step ≤ 5054310);
  schema : SameSchema l.initial.kernel l.kernel;
  restarts : StaysRestarting l.initial.kernel l.kernel;
}
