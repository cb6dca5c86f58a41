use Rattle.mt_world.specs.Moves.IsStill.{abort_begun, is_refused}
use Rattle.mt_world.specs.declared.events.Answer.TheVariants.{Aborting, Refused}
use Rattle.mt_world.specs.declared.events.Event.TheVariants.{AbortBegin}
use Rattle.mt_world.proofs.EventLemmas.{fails_err, fails_ok, kernel_phases, kernel_same, still_made, store_device}
use Rattle.mt_world.proofs.event_calls.abort.Goals as goal

pub returns-in-Ok : goal.returns-in-Ok
returns-in-Ok g c =
    let D = g.D.Device in let k = c.args.kernel.now in let n = c.abort_begin.new.self in let e = c.in-Ok.ensures in
    still_made k n (AbortBegin c.args.txn) Aborting (abort_begun _) e.state e.may (store_device k n e.begins.store) (e.begins.state, e.begins.commits) e.schema (fails_ok k n _ _ e.fails (λ broken. cc)) e.restarts e.moments

pub returns-in-Err : goal.returns-in-Err
returns-in-Err g c =
    let D = g.D.Device in let k = c.args.kernel.now in let n = c.abort_begin.new.self in let e = c.in-Err.ensures in
    still_made k n (AbortBegin c.args.txn) (Refused c.in-Err.refusal) (is_refused _ _) e.state e.cause (kernel_same k n e.err) (kernel_phases k n e.err) e.schema (fails_err k n c.in-Err.refusal e.fails) e.restarts e.moments
