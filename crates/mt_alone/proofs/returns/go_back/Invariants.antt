use Rattle.std.proofs.Common.{◌+◌, ◌≤◌, ℕ}
use Rattle.mt_core.specs.Work.{undo_steps}
use Rattle.mt_txn.specs.Shown.{SameSchema, StaysRestarting}
use Rattle.mt_alone.specs.Driven.{IsReturning}
use Rattle.mt_model.specs.Backwards.{OpenCalls}
use Rattle.mt_alone.specs.Plays.{Play}
use Rattle.mt_alone.proofs.returns.go_back.Given as goal

abbrev pub invariant-loop-step : goal.invariant-loop-step
invariant-loop-step g l = record {
  returning : (p : Play) (n : ℕ) (had : OpenCalls) → IsReturning p l.txn n had l.initial.kernel → undo_steps l.initial.kernel.core l.txn ≤ 5054310
      → IsReturning p l.txn n had l.kernel × (undo_steps l.kernel.core l.txn + l._step ≤ 5054310);
  schema : SameSchema l.initial.kernel l.kernel;
  restarts : StaysRestarting l.initial.kernel l.kernel;
}
