use Rattle.std.proofs.Common.{sym, subst}
use Rattle.mt_world.specs.Schedules.{HasBecome}
use Rattle.mt_world.proofs.event_calls.make_on.Goals as goal

pub returns-in-Some : goal.returns-in-Some
returns-in-Some g c = c.in-Some.ensures

pub returns-in-None : goal.returns-in-None
returns-in-None g c =
    let D = g.D.Device in let e = c.in-None.ensures in
    subst (λ (X : Type 0). X) (λ i. HasBecome (e.1 i) (sym e.0 i) c.turn_over.result.1 c.turn_over.result.0) c.turn_over.ensures
