use Rattle.std.proofs.Common.{ℕ}
use Rattle.mt_txn.specs.Shown.{SameSchema, StaysRestarting}
use Rattle.mt_alone.specs.Driven.{IsReturning}
use Rattle.mt_model.specs.Backwards.{OpenCalls}
use Rattle.mt_alone.specs.Plays.{Play}
use Rattle.mt_alone.proofs.ReturnLemmas.{ReturnsBy}
use Rattle.mt_alone.proofs.returns.ask_return.Given as goal

abbrev pub invariant-loop : goal.invariant-loop
invariant-loop g l = record {
  goes : (p : Play) (n : ℕ) (had : OpenCalls) → IsReturning p l.txn n had l.initial.kernel → ReturnsBy p l.txn n had l.initial.kernel l.kernel;
  schema : SameSchema l.initial.kernel l.kernel;
  restarts : StaysRestarting l.initial.kernel l.kernel;
}
