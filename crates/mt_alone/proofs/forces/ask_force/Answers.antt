use Rattle.std.proofs.Common.{subst}
use Rattle.mt_txn.specs.Shown.{StaysRestarting}
use Rattle.mt_alone.proofs.ForceLemmas.{failing}
use Rattle.mt_alone.specs.Driven.{IsForcing}
use Rattle.mt_alone.proofs.forces.ask_force.Goals as goal

pub returns-then-not-wants_memory-clause-forcing : goal.returns-then-not-wants_memory-clause-forcing
returns-then-not-wants_memory-clause-forcing g c =
    let e = c.force_step-answer.ensures in
    subst (λ k. IsForcing k c.force_step-answer.result c.force_step-answer.new.self) c.loop.invariant
    (record { forced = e.forced; log = e.log; appended = e.keeps.appended; running = e.keeps.running; states = e.keeps.states; undo = e.keeps.undo; err = e.keeps.err; cause = failing c.loop.kernel c.force_step-answer.new.self c.force_step-answer.result (λ failed. (e.fails.0 failed).1) e.cause })

pub returns-clause-forcing : goal.returns-clause-forcing
returns-clause-forcing g c =
    let e = c.force_step.ensures in
    subst (λ k. IsForcing k c.force_step.result c.force_step.new.self) c.loop.invariant
    (record { forced = e.forced; log = e.log; appended = e.keeps.appended; running = e.keeps.running; states = e.keeps.states; undo = e.keeps.undo; err = e.keeps.err; cause = failing c.loop.kernel c.force_step.new.self c.force_step.result (λ failed. (e.fails.0 failed).1) e.cause })

pub returns-then-not-wants_memory-clause-restarts : goal.returns-then-not-wants_memory-clause-restarts
returns-then-not-wants_memory-clause-restarts g c =
    subst (λ k. StaysRestarting k c.force_step-answer.new.self) c.loop.invariant c.force_step-answer.ensures.restarts

pub returns-clause-restarts : goal.returns-clause-restarts
returns-clause-restarts g c = subst (λ k. StaysRestarting k c.force_step.new.self) c.loop.invariant c.force_step.ensures.restarts
