use Rattle.mt_txn.specs.Shown.{is_failed}
use Rattle.mt_txn.specs.Causes.{begin_cause}
use Rattle.mt_world.specs.Moves.IsStill.{is_refused}
use Rattle.mt_world.specs.declared.events.Answer.TheVariants.{Refused}
use Rattle.mt_world.specs.declared.events.Event.TheVariants.{Begin}
use Rattle.mt_world.proofs.EventLemmas.{fails_err, fails_ok, begin_made, caused, parts_phases, still_made}
use Rattle.mt_txn.proofs.Answering.{may_of}
use Rattle.mt_txn.proofs.Showing.{parts_stay}
use Rattle.mt_world.proofs.event_calls.begin.Goals as goal

pub returns-in-Ok : goal.returns-in-Ok
returns-in-Ok g c =
    let D = g.D.Device in let k = c.args.kernel.now in let n = c.begin.new.self in let e = c.in-Ok.ensures in
    begin_made k n c.args.session c.in-Ok.txn e.number (may_of (begin_cause (is_failed k) k.core) k n _ e.early) e.begun e.device (e.opened, e.commits) e.schema (fails_ok k n _ _ e.fails (λ broken. cc)) e.restarts e.moments

pub returns-in-Err : goal.returns-in-Err
returns-in-Err g c =
    let D = g.D.Device in let k = c.args.kernel.now in let n = c.begin.new.self in let e = c.in-Err.ensures in
    still_made k n (Begin c.args.session) (Refused c.in-Err.refusal) (is_refused _ _) (parts_stay k n e.err e.schema) (caused (begin_cause (is_failed k) k.core) c.in-Err.refusal e.cause) e.device (parts_phases k n e.err) e.schema (fails_err k n c.in-Err.refusal e.fails) e.restarts e.moments
