use Rattle.mt_txn.specs.Shown.{SameSchema, StaysRestarting}
use Rattle.mt_alone.specs.Driven.{IsGoing}
use Rattle.mt_alone.specs.Plays.{Play}
use Rattle.mt_alone.proofs.DriveLemmas.{GoesBy}
use Rattle.mt_alone.proofs.operation_steps.ask_abort.Given as goal

abbrev pub invariant-loop : goal.invariant-loop
invariant-loop g l = record {
  goes : (p : Play) → IsGoing p l.txn l.initial.kernel → GoesBy p l.txn l.initial.kernel l.kernel;
  schema : SameSchema l.initial.kernel l.kernel;
  restarts : StaysRestarting l.initial.kernel l.kernel;
}
