use Rattle.mt_txn.specs.Shown.{is_failed}
use Rattle.mt_txn.specs.Causes.{commit_cause}
use Rattle.mt_world.specs.Moves.IsStill.{commit_begun, is_refused}
use Rattle.mt_world.specs.declared.events.Answer.TheVariants.{Committing, Refused}
use Rattle.mt_world.specs.declared.events.Event.TheVariants.{Commit}
use Rattle.mt_world.proofs.EventLemmas.{fails_err, fails_ok, caused, still_made}
use Rattle.mt_world.proofs.event_calls.commit.Goals as goal

pub returns-in-Ok : goal.returns-in-Ok
returns-in-Ok g c =
    let D = g.D.Device in let k = c.args.kernel.now in let n = c.commit_begin.new.self in let e = c.in-Ok.ensures in
    still_made k n (Commit c.args.txn) (Committing c.in-Ok.place) (commit_begun _ _) e.state (e.may, e.place) e.keeps.device (e.logs.commits, (e.logs.queue.0, e.logs.queue.1, e.logs.queue.3)) e.schema (fails_ok k n _ _ e.fails (λ broken. cc)) e.restarts e.moments

pub returns-in-Err : goal.returns-in-Err
returns-in-Err g c =
    let D = g.D.Device in let k = c.args.kernel.now in let n = c.commit_begin.new.self in let e = c.in-Err.ensures in
    still_made k n (Commit c.args.txn) (Refused c.in-Err.refusal) (is_refused _ _) e.state (caused (commit_cause (is_failed k) k.core c.args.txn) c.in-Err.refusal e.cause) e.keeps.device e.logs.err e.schema (fails_err k n c.in-Err.refusal e.fails) e.restarts e.moments
