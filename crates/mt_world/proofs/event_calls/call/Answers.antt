use Rattle.std.proofs.Common.{ap}
use Rattle.mt_pool.specs.declared.store.Store.{Store}
use Rattle.mt_world.proofs.EventLemmas.{fails_err, fails_ok, call_made, call_refused}
use Rattle.mt_world.proofs.event_calls.call.Goals as goal

pub returns-in-Ok : goal.returns-in-Ok
returns-in-Ok g c =
    let D = g.D.Device in let k = c.args.kernel.now in let n = c.call.new.self in let e = c.in-Ok.ensures in
    call_made k n c.args.txn c.args.op.now c.in-Ok.called (λ w is. (e.early w is).0) e.answer e.called (ap (λ (x : Store _). x.device) e.store) (e.states, e.commits) e.schema (fails_ok k n _ _ e.fails (λ broken. cc)) e.restarts e.moments

pub returns-in-Err : goal.returns-in-Err
returns-in-Err g c =
    let D = g.D.Device in let k = c.args.kernel.now in let n = c.call.new.self in let e = c.in-Err.ensures in
    call_refused k n c.args.txn c.args.op.now c.in-Err.refusal (λ w is. (e.early w is).0) e.answer e.called (ap (λ (x : Store _). x.device) e.store) (e.states, e.commits) e.schema (fails_err k n c.in-Err.refusal e.fails) e.restarts e.moments
