use Rattle.mt_txn.specs.Shown.{SameSchema, StaysRestarting}
use Rattle.mt_alone.specs.Driven.{Eases, NobodyCommits}
use Rattle.mt_alone.proofs.forces.make_room.Given as goal

abbrev pub invariant-loop : goal.invariant-loop
invariant-loop g l = record {
  eases : NobodyCommits l.initial.kernel → Eases l.initial.kernel l.kernel;
  schema : SameSchema l.initial.kernel l.kernel;
  restarts : StaysRestarting l.initial.kernel l.kernel;
}
