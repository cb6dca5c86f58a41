use Rattle.std.proofs.Common.{subst}
use Rattle.mt_world.proofs.TurnLemmas.{refused_as, turned_as}
use Rattle.mt_restart.specs.Rotated.{Rotates}
use Rattle.mt_world.proofs.event_calls.turn_over.Goals as goal

pub returns-in-Ok : goal.returns-in-Ok
returns-in-Ok g c =
    let D = g.D.Device in let k = c.args.kernel in
    turned_as g.met.D.Device.only_now k c.rotate-standing.result.0 _ k.starts k.well (λ n. n.well) (subst (Rotates k c.rotate-standing.result.0) c.in-Ok.is c.rotate-standing.ensures.rotated) c.rotate-standing.ensures.moments

pub returns-in-Err : goal.returns-in-Err
returns-in-Err g c =
    let D = g.D.Device in let k = c.args.kernel in
    refused_as g.met.D.Device.only_now k c.rotate-standing.result.0 c.in-Err.refusal k.starts k.well (λ n. n.well) (subst (Rotates k c.rotate-standing.result.0) c.in-Err.is c.rotate-standing.ensures.rotated) c.rotate-standing.ensures.moments
