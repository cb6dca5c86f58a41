use Rattle.mt_txn.specs.Shown.{is_failed}
use Rattle.std.proofs.Common.{Ok, ap}
use Rattle.mt_txn.specs.Causes.{step_cause}
use Rattle.mt_world.specs.Moves.IsStill.{is_refused}
use Rattle.mt_world.specs.declared.events.Answer.TheVariants.{Refused}
use Rattle.mt_world.specs.declared.events.Event.TheVariants.{Step}
use Rattle.mt_world.proofs.EventLemmas.{fails_err, fails_ok, caused_or, step_made, still_made}
use Rattle.mt_world.proofs.event_calls.step.Goals as goal

pub returns-in-Ok : goal.returns-in-Ok
returns-in-Ok g c =
    let D = g.D.Device in let k = c.args.kernel.now in let n = c.step.new.self in let e = c.in-Ok.ensures in
    step_made k n c.args.txn c.in-Ok.stepped (record { may = e.may; moves = e.moves }) e.reads e.stepped (e.leaves.states, e.leaves.commits) e.schema (fails_ok k n _ _ e.fails (λ broken. cc)) e.restarts e.moments

pub returns-in-Err : goal.returns-in-Err
returns-in-Err g c =
    let D = g.D.Device in let k = c.args.kernel.now in let n = c.step.new.self in let e = c.in-Err.ensures in
    still_made k n (Step c.args.txn) (Refused c.in-Err.refusal) (is_refused _ _) e.stepped (caused_or (step_cause (is_failed k) k.core c.args.txn) c.in-Err.refusal e.cause) e.reads (e.leaves.states, e.leaves.commits) e.schema (fails_err k n c.in-Err.refusal e.fails) e.restarts e.moments
