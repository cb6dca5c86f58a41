use Rattle.mt_world.specs.Moves.IsStill.{is_refused}
use Rattle.mt_world.specs.declared.events.Answer.TheVariants.{Refused}
use Rattle.mt_world.specs.declared.events.Event.TheVariants.{Force}
use Rattle.mt_world.proofs.EventLemmas.{fails_err, fails_ok, force_made, still_made, wanting_or}
use Rattle.mt_world.proofs.event_calls.force.Goals as goal

pub returns-in-Ok : goal.returns-in-Ok
returns-in-Ok g c =
    let D = g.D.Device in let k = c.args.kernel.now in let n = c.force_step.new.self in let e = c.in-Ok.ensures in
    force_made k n c.in-Ok.forced e.once e.forced e.log e.keeps.states e.schema (fails_ok k n _ _ e.fails (λ broken. cc)) e.restarts e.moments

pub returns-in-Err : goal.returns-in-Err
returns-in-Err g c =
    let D = g.D.Device in let k = c.args.kernel.now in let n = c.force_step.new.self in let e = c.in-Err.ensures in
    still_made k n Force (Refused c.in-Err.refusal) (is_refused _ _) e.forced (wanting_or c.in-Err.refusal e.cause) e.once e.keeps.err e.schema (fails_err k n c.in-Err.refusal e.fails) e.restarts e.moments
