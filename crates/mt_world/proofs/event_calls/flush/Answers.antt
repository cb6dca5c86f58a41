use Rattle.std.proofs.Common.{Ok, ap}
use Rattle.mt_world.specs.Moves.IsStill.{flushed, is_refused}
use Rattle.mt_world.specs.declared.events.Answer.TheVariants.{Flushed, Refused}
use Rattle.mt_world.specs.declared.events.Event.TheVariants.{Flush}
use Rattle.mt_world.proofs.EventLemmas.{fails_err, fails_ok, flush_reported, rest_phases, still_made}
use Rattle.mt_world.proofs.event_calls.flush.Goals as goal

pub returns-in-Ok : goal.returns-in-Ok
returns-in-Ok g c =
    let D = g.D.Device in let k = c.args.kernel.now in let n = c.flush_step.new.self in let e = c.in-Ok.ensures in
    still_made k n Flush (Flushed c.in-Ok.flushed) (flushed _) e.state
    (flush_reported k n c.in-Ok.flushed (λ p is. e.flushes.written p (ap Ok is)) (λ is. e.flushes.held_up (ap Ok is)) (λ is. e.flushes.nothing (ap Ok is))) e.once (rest_phases k n e.rest) e.schema (fails_ok k n _ _ e.fails (λ broken. cc)) e.restarts e.moments

pub returns-in-Err : goal.returns-in-Err
returns-in-Err g c =
    let D = g.D.Device in let k = c.args.kernel.now in let n = c.flush_step.new.self in let e = c.in-Err.ensures in
    still_made k n Flush (Refused c.in-Err.refusal) (is_refused _ _) e.state e.cause e.once (rest_phases k n e.rest) e.schema (fails_err k n c.in-Err.refusal e.fails) e.restarts e.moments
