use mathlib.Core.Logic.{∥∥₁_elim, ∥∥₁_map}
use Rattle.std.proofs.Common.{◌≡◌, ◌∙◌, ap, sym, refl, subst, arith, rules}
use Rattle.std.specs.Prelude.{Ok, Err}
use Rattle.std.proofs.lemmas.Result.{err_from_is_err_and}
use Rattle.mt_space.specs.Rooms.{reserved_of}
use Rattle.mt_steps.specs.Plans.{own_needs}
use Rattle.mt_space.specs.declared.space_map.SpaceMap.{SpaceMap}
use Rattle.mt_op.specs.declared.scope.Stage.TheVariants.{Planning}
use Rattle.mt_op.specs.Operations.{world}
use Rattle.mt_op.specs.Stepping.{MakesStep, PlansOn}
use Rattle.mt_op.proofs.Unready.{IsUnready, Unready-prop, goes_unready}
use Rattle.mt_op.proofs.Choosing.{room_still, writes_step, stopped_step, planned_step, made_step}
use Rattle.mt_op.proofs.operations.Operations.step.Goals as goal

pub returns-then-eq : goal.returns-then-eq
returns-then-eq g c = let d = g.D.Device in
    record { steps = writes_step d c.args.self.now c.go_on.new.self c.args.scope.now c.go_on.new.scope c.go_on.result c.go_on.ensures }

pub returns-in_err-stepped : goal.returns-in_err-stepped
returns-in_err-stepped g c = let d = g.D.Device in let o = c.args.self.now in let s = c.args.scope.now in let n = c.plan_step.new.self in let t = c.plan_step.new.scope in
    let p = err_from_is_err_and c.from_residual.result c.from_residual.ensures.1 in
    record {
      steps = subst (MakesStep d o n s t) (sym (p.1 ∙ ap Err p.2))
          (stopped_step d o n s t _ (subst (PlansOn d o n s t) c.in_err-stepped.was c.plan_step.ensures));
    }

pub returns-in-Some : goal.returns-in-Some
returns-in-Some g c = let d = g.D.Device in let o = c.args.self.now in let s = c.args.scope.now in let n = c.plan_step.new.self in let t = c.plan_step.new.scope in
    let planning : s.stage ≡ Planning = search rules in
    let plans = subst (PlansOn d o n s t) (c.in_ok-stepped.was ∙ ap Ok c.in-Some.is) c.plan_step.ensures in
    let unready : IsUnready (Ok c.in-Some.stepped) = ∥∥₁_elim c.requires.right (Unready-prop (Ok c.in-Some.stepped)) (λ (opening, relations, counters, right, k, few, some).
    goes_unready relations counters (world d opening o) (world d opening n) s t (Ok c.in-Some.stepped) (plans.goes opening relations counters right k few).1) in
    record { steps = planned_step d o n s t c.in-Some.stepped planning unready plans }

pub go_on-requires-in-None : goal.go_on-requires-in-None
go_on-requires-in-None g c = let d = g.D.Device in let o = c.args.self.now in let s = c.args.scope.now in let n = c.plan_step.new.self in let t = c.plan_step.new.scope in
    let plans = subst (PlansOn d o n s t) (c.in_ok-stepped.was ∙ ap Ok c.in-None.is) c.plan_step.ensures in
    let same = plans.scope.op in
    let own : own_needs t.op t.split ≡ own_needs s.op s.split = λ i. own_needs (same.op i) (same.split i) in
    let claims = c.requires.claims in
    let stays = ap (λ (m : SpaceMap). reserved_of m.space) plans.map in
    record {
      right = ∥∥₁_map c.requires.right (λ (opening, relations, counters, right, k, few, some).
          let gone = plans.goes opening relations counters right k few in (opening, relations, counters, gone.0, gone.1.own, few, some));
      claims = omega (arith, own, claims, stays);
      writing = (plans.made refl).1;
      budget = plans.budget;
      room = room_still o.store.log n.store.log s.left t.left plans.log plans.left c.requires.room;
    }

pub returns-in-None : goal.returns-in-None
returns-in-None g c = let d = g.D.Device in let o = c.args.self.now in let s = c.args.scope.now in let n = c.plan_step.new.self in let t = c.plan_step.new.scope in
    let planning : s.stage ≡ Planning = search rules in
    let plans = subst (PlansOn d o n s t) (c.in_ok-stepped.was ∙ ap Ok c.in-None.is) c.plan_step.ensures in
    record { steps = made_step d o n s t c.go_on-in-None.new.self c.go_on-in-None.new.scope c.go_on-in-None.result planning plans c.go_on-in-None.ensures }
