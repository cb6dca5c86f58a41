use Rattle.mt_txn.specs.Shown.{is_failed}
use Rattle.std.proofs.Common.{Ok, ap}
use Rattle.mt_txn.specs.Causes.{return_cause}
use Rattle.mt_world.specs.Moves.IsStill.{is_refused}
use Rattle.mt_world.specs.declared.events.Answer.TheVariants.{Refused}
use Rattle.mt_world.specs.declared.events.Event.TheVariants.{BackStep}
use Rattle.mt_world.proofs.EventLemmas.{fails_err, fails_ok, return_made, return_phases, return_stays, caused_or, still_made}
use Rattle.mt_world.proofs.event_calls.return_step.Goals as goal

pub returns-in-Ok : goal.returns-in-Ok
returns-in-Ok g c =
    let D = g.D.Device in let k = c.args.kernel.now in let n = c.back_step.new.self in let e = c.in-Ok.ensures in
    return_made k n c.args.txn c.in-Ok.stepped
    (record { may = e.may; moves = e.moves; count = λ first goes is. (e.leaves.ends (ap Ok is) first goes).1 }) e.reads e.returned
    (return_phases k n c.args.txn c.in-Ok.stepped e.may e.leaves.states e.leaves.commits (λ first goes is. (e.leaves.ends (ap Ok is) first goes).0)) e.schema (fails_ok k n _ _ e.fails (λ broken. cc)) e.restarts e.moments

pub returns-in-Err : goal.returns-in-Err
returns-in-Err g c =
    let D = g.D.Device in let k = c.args.kernel.now in let n = c.back_step.new.self in let e = c.in-Err.ensures in
    still_made k n (BackStep c.args.txn) (Refused c.in-Err.refusal) (is_refused _ _) (return_stays k n c.args.txn c.in-Err.refusal e.early e.returned)
    (caused_or (return_cause (is_failed k) k.core c.args.txn) c.in-Err.refusal e.cause) e.reads (e.leaves.err_states, e.leaves.commits) e.schema (fails_err k n c.in-Err.refusal e.fails) e.restarts e.moments
