use Rattle.std.proofs.Common.{rules, refl}
use Rattle.std.specs.Prelude.{Result}
use mathlib.Core.Logic.{∥∥₁_map}
use Rattle.mt_base.specs.declared.refusal.Refusal.{Refusal}
use Rattle.mt_core.specs.Work.{Lowers, steps_in}
use Rattle.mt_core.specs.declared.steps.Stepping.{Stepping}
use Rattle.mt_pool.specs.Views.{pages}
use Rattle.mt_txn.proofs.Answering.{going_lowers}
use Rattle.mt_txn.proofs.Barring.{step_locks, step_other}
use Rattle.mt_core.specs.PageLocks.{KeepsPageLocks}
use Rattle.mt_txn.specs.Work.{LowersSteps}
use Rattle.mt_txn.specs.declared.answers.Stepped.{Stepped}
use Rattle.mt_core.specs.Consistent.{AtPlace}
use Rattle.mt_core.specs.Steps.{Steps, NamesOther}
use Rattle.mt_txn.proofs.Showing.{at_place}
use Rattle.std.proofs.Common.{◌∙◌, ◌≤◌, Ok, sym, ap, subst}
use Rattle.std.proofs.lemmas.Result.{err_from_is_err_and}
use Rattle.mt_txn.proofs.Answering.{err_stepped, going_stepped}
use Rattle.mt_txn.proofs.Showing.{sound_of, step_shown, step_well, forward_of, stage_of, StepShown}
use Rattle.mt_txn.proofs.Restarting.{meanwhile, no_call, restarts_on, step_goes}
use Rattle.mt_log.specs.Words.{appended}
use Rattle.mt_core.specs.Writes.{StepWrites}
use Rattle.mt_txn.proofs.Stepping.{others_of, reported_writes}
use Rattle.mt_txn.specs.Writes.{WritesOnePage}
use Rattle.mt_txn.specs.Well.{ShowsIn}
use Rattle.mt_txn.proofs.kernel.Kernel.step.Goals as goal

pub step-outcome-requires-clause-safe : goal.step-outcome-requires-clause-safe
step-outcome-requires-clause-safe g c = sound_of g.D.Device c.args.self.now.relations c.args.self.now.counters c.args.self.now.core c.args.self.now.well

pub step-outcome-requires-clause-forward : goal.step-outcome-requires-clause-forward
step-outcome-requires-clause-forward g c = forward_of g.D.Device c.args.self.now.relations c.args.self.now.counters c.args.self.now.core c.args.txn c.in-Some-place_of.place c.args.self.now.well c.in-Some-place_of.ensures.place.0 c.in-Some-place_of.ensures.place.1 c.in_default.ensures.opened

pub step-outcome-requires-clause-stage : goal.step-outcome-requires-clause-stage
step-outcome-requires-clause-stage g c = stage_of g.D.Device c.args.self.now.relations c.args.self.now.counters c.args.self.now.core c.args.txn c.in-Some-place_of.place c.args.self.now.well c.in-Some-place_of.ensures.place.0 c.in-Some-place_of.ensures.place.1 c.in_default.ensures.opened

pub invariant_of-self : goal.invariant_of-self
invariant_of-self g c = record { well = step_well g.D.Device c.args.self.now.relations c.args.self.now.counters c.args.self.now.core c.step-outcome.new.self c.in-Some-place_of.place c.step-outcome.result c.in-Some-place_of.ensures.place.0 c.step-outcome.ensures.steps c.args.self.now.well; starts = ∥∥₁_map c.args.self.now.starts (λ (first, r). let D = g.D.Device in let k = c.args.self.now in (first, restarts_on D k.relations k.counters first k.core c.step-outcome.new.self (step_goes D k.core c.step-outcome.new.self c.in-Some-place_of.place c.step-outcome.result c.in-Some-place_of.ensures.place.0 c.step-outcome.ensures.steps) (c.step-outcome.ensures.restartable) r)); schema = c.args.self.now.schema }

pub returns-in_err-reply-clause-stepped : goal.returns-in_err-reply-clause-stepped
returns-in_err-reply-clause-stepped g c = λ first s shows. let p = err_from_is_err_and c.from_residual.result c.from_residual.ensures.1 in
    err_stepped (λ z. ShowsIn g.D.Device c.args.self.now.relations c.args.self.now.counters first z c.step-outcome.new.self) s c.args.txn c.from_residual.result p.0 p.1 (subst (StepShown g.D.Device c.args.self.now.relations c.args.self.now.counters c.step-outcome.new.self first s c.args.txn) (c.in_err-reply.was) (step_shown g.D.Device c.args.self.now.relations c.args.self.now.counters c.args.self.now.core c.step-outcome.new.self first s c.args.txn c.in-Some-place_of.place c.step-outcome.result c.in-Some-place_of.ensures.place.0 c.in-Some-place_of.ensures.place.1 (forward_of g.D.Device c.args.self.now.relations c.args.self.now.counters c.args.self.now.core c.args.txn c.in-Some-place_of.place c.args.self.now.well c.in-Some-place_of.ensures.place.0 c.in-Some-place_of.ensures.place.1 c.in_default.ensures.opened) c.step-outcome.ensures.steps shows))

pub returns-in-Ended-clause-stepped : goal.returns-in-Ended-clause-stepped
returns-in-Ended-clause-stepped g c = λ first s shows. subst (StepShown g.D.Device c.args.self.now.relations c.args.self.now.counters c.step-outcome.new.self first s c.args.txn) (c.in_ok-reply.was ∙ ap Ok c.in-Ended.is) (step_shown g.D.Device c.args.self.now.relations c.args.self.now.counters c.args.self.now.core c.step-outcome.new.self first s c.args.txn c.in-Some-place_of.place c.step-outcome.result c.in-Some-place_of.ensures.place.0 c.in-Some-place_of.ensures.place.1 (forward_of g.D.Device c.args.self.now.relations c.args.self.now.counters c.args.self.now.core c.args.txn c.in-Some-place_of.place c.args.self.now.well c.in-Some-place_of.ensures.place.0 c.in-Some-place_of.ensures.place.1 c.in_default.ensures.opened) c.step-outcome.ensures.steps shows)

pub returns-in-Going-clause-stepped : goal.returns-in-Going-clause-stepped
returns-in-Going-clause-stepped g c = λ first s shows. going_stepped (λ z. ShowsIn g.D.Device c.args.self.now.relations c.args.self.now.counters first z c.step-outcome.new.self) s c.args.txn _ c.in-Going.going c.stepped.result c.stepped.ensures (subst (StepShown g.D.Device c.args.self.now.relations c.args.self.now.counters c.step-outcome.new.self first s c.args.txn) (c.in_ok-reply.was ∙ ap Ok c.in-Going.is) (step_shown g.D.Device c.args.self.now.relations c.args.self.now.counters c.args.self.now.core c.step-outcome.new.self first s c.args.txn c.in-Some-place_of.place c.step-outcome.result c.in-Some-place_of.ensures.place.0 c.in-Some-place_of.ensures.place.1 (forward_of g.D.Device c.args.self.now.relations c.args.self.now.counters c.args.self.now.core c.args.txn c.in-Some-place_of.place c.args.self.now.well c.in-Some-place_of.ensures.place.0 c.in-Some-place_of.ensures.place.1 c.in_default.ensures.opened) c.step-outcome.ensures.steps shows))

pub returns-in-Ended-clause-moves : goal.returns-in-Ended-clause-moves
returns-in-Ended-clause-moves g c = record {
  work = let k = c.args.self.now.core in let n = c.step-outcome.new.self in let all = pages k.operations.store.pool in
      let at = at_place k.running.items c.in-Some-place_of.place c.in-Some-place_of.ensures.place.0 in
      let lowers = subst (λ t. Lowers all c.step-outcome.result (steps_in k.running.items t) (steps_in n.running.items t)) (c.in-Some-place_of.ensures.place.1 at.0 at.1) (c.step-outcome.ensures.stepped.work at.0 at.1) in
      subst (λ (r : Result Stepping Refusal). Lowers all r (steps_in k.running.items c.args.txn) (steps_in n.running.items c.args.txn)) (c.in_ok-reply.was ∙ ap Ok c.in-Ended.is) lowers;
  others = others_of c.args.self.now.core.running.items c.step-outcome.new.self.running.items c.in-Some-place_of.place c.args.txn c.in-Some-place_of.ensures.place.0 c.in-Some-place_of.ensures.place.1 c.step-outcome.ensures.stepped.others;
  other = search rules;
  full = search rules;
  locks = search rules;
}

pub returns-in-Going-clause-moves : goal.returns-in-Going-clause-moves
returns-in-Going-clause-moves g c = record {
  work = let k = c.args.self.now.core in let n = c.step-outcome.new.self in let all = pages k.operations.store.pool in
      let at = at_place k.running.items c.in-Some-place_of.place c.in-Some-place_of.ensures.place.0 in
      let lowers = subst (λ t. Lowers all c.step-outcome.result (steps_in k.running.items t) (steps_in n.running.items t)) (c.in-Some-place_of.ensures.place.1 at.0 at.1) (c.step-outcome.ensures.stepped.work at.0 at.1) in
      going_lowers n.running.items all (steps_in k.running.items c.args.txn) (steps_in n.running.items c.args.txn) c.in-Going.going c.stepped.result c.stepped.ensures (subst (λ (r : Result Stepping Refusal). Lowers all r (steps_in k.running.items c.args.txn) (steps_in n.running.items c.args.txn)) (c.in_ok-reply.was ∙ ap Ok c.in-Going.is) lowers);
  others = others_of c.args.self.now.core.running.items c.step-outcome.new.self.running.items c.in-Some-place_of.place c.args.txn c.in-Some-place_of.ensures.place.0 c.in-Some-place_of.ensures.place.1 c.step-outcome.ensures.stepped.others;
  other = let k = c.args.self.now.core in let n = c.step-outcome.new.self in let place = c.in-Some-place_of.place in
      let seen = g.D.Device.seen in let may_leave = g.D.Device.may_leave in
      let was = c.in_ok-reply.was ∙ ap Ok c.in-Going.is in
      step_other g.D.Device c.args.self.now.relations c.args.self.now.counters k n c.args.txn place c.in-Going.going c.stepped.result c.in-Some-place_of.ensures.place.1
      (record {
        within = c.in-Some-place_of.ensures.place.0;
        states = c.step-outcome.ensures.stepped.states;
        consistent = λ origin base safe. (subst (Steps g.D.Device origin base k n place) was (c.step-outcome.ensures.steps origin base safe)).consistent;
        names = λ origin base safe. subst (λ (r : Result Stepping Refusal). AtPlace k.running.items place (λ q. NamesOther n.running.items q.txn r)) was (c.step-outcome.ensures.stepped.other origin base safe);
      }) c.args.self.now.well c.stepped.ensures;
  full = search rules;
  locks = λ may. let k = c.args.self.now.core in let n = c.step-outcome.new.self in let place = c.in-Some-place_of.place in
      let seen = g.D.Device.seen in let may_leave = g.D.Device.may_leave in
      let was = c.in_ok-reply.was ∙ ap Ok c.in-Going.is in (
        place,
        c.in-Some-place_of.ensures.place.0,
        λ r at. (
          c.in-Some-place_of.ensures.place.1 r at,
          step_locks g.D.Device c.args.self.now.relations c.args.self.now.counters k n c.args.txn place c.in-Going.going c.stepped.result r c.in-Some-place_of.ensures.place.1
              (record {
                within = c.in-Some-place_of.ensures.place.0;
                states = c.step-outcome.ensures.stepped.states;
                consistent = λ origin base safe. (subst (Steps g.D.Device origin base k n place) was (c.step-outcome.ensures.steps origin base safe)).consistent;
                names = λ origin base safe. subst (λ (x : Result Stepping Refusal). AtPlace k.running.items place (λ q. NamesOther n.running.items q.txn x)) was (c.step-outcome.ensures.stepped.other origin base safe);
              }) c.args.self.now.well c.stepped.ensures (subst (KeepsPageLocks k n r) was (c.step-outcome.ensures.stepped.locks r at)),
        ),
      );
}

pub returns-in_err-reply-clause-moves : goal.returns-in_err-reply-clause-moves
returns-in_err-reply-clause-moves g c = record {
  work = let k = c.args.self.now.core in let n = c.step-outcome.new.self in let all = pages k.operations.store.pool in
      let at = at_place k.running.items c.in-Some-place_of.place c.in-Some-place_of.ensures.place.0 in
      let p = err_from_is_err_and c.from_residual.result c.from_residual.ensures.1 in
      let lowers = subst (λ t. Lowers all c.step-outcome.result (steps_in k.running.items t) (steps_in n.running.items t)) (c.in-Some-place_of.ensures.place.1 at.0 at.1) (c.step-outcome.ensures.stepped.work at.0 at.1) in
      let few : steps_in n.running.items c.args.txn ≤ steps_in k.running.items c.args.txn = subst (λ (r : Result Stepping Refusal). Lowers all r (steps_in k.running.items c.args.txn) (steps_in n.running.items c.args.txn)) c.in_err-reply.was lowers in
      subst (λ (r : Result Stepped Refusal). LowersSteps all r (steps_in k.running.items c.args.txn) (steps_in n.running.items c.args.txn)) (sym p.1) few;
  others = others_of c.args.self.now.core.running.items c.step-outcome.new.self.running.items c.in-Some-place_of.place c.args.txn c.in-Some-place_of.ensures.place.0 c.in-Some-place_of.ensures.place.1 c.step-outcome.ensures.stepped.others;
  other = search rules;
  full = search rules;
  locks = search rules;
}

pub returns-in_err-reply-clause-restarts : goal.returns-in_err-reply-clause-restarts
returns-in_err-reply-clause-restarts g c = λ first r. let D = g.D.Device in let k = c.args.self.now in
    restarts_on D k.relations k.counters first k.core c.step-outcome.new.self (step_goes D k.core c.step-outcome.new.self c.in-Some-place_of.place c.step-outcome.result c.in-Some-place_of.ensures.place.0 c.step-outcome.ensures.steps) (c.step-outcome.ensures.restartable) r

pub returns-in-Ended-clause-restarts : goal.returns-in-Ended-clause-restarts
returns-in-Ended-clause-restarts g c = λ first r. let D = g.D.Device in let k = c.args.self.now in
    restarts_on D k.relations k.counters first k.core c.step-outcome.new.self (step_goes D k.core c.step-outcome.new.self c.in-Some-place_of.place c.step-outcome.result c.in-Some-place_of.ensures.place.0 c.step-outcome.ensures.steps) (c.step-outcome.ensures.restartable) r

pub returns-in-Going-clause-restarts : goal.returns-in-Going-clause-restarts
returns-in-Going-clause-restarts g c = λ first r. let D = g.D.Device in let k = c.args.self.now in
    restarts_on D k.relations k.counters first k.core c.step-outcome.new.self (step_goes D k.core c.step-outcome.new.self c.in-Some-place_of.place c.step-outcome.result c.in-Some-place_of.ensures.place.0 c.step-outcome.ensures.steps) (c.step-outcome.ensures.restartable) r

pub returns-in-Some-clause-moments : goal.returns-in-Some-clause-moments
returns-in-Some-clause-moments g c = λ first r schema. let D = g.D.Device in let k = c.args.self.now in
    no_call D k.relations k.counters first g.met.D.Device.only_now k.core _ refl r schema

pub returns-in_default-place_of-clause-moments : goal.returns-in_default-place_of-clause-moments
returns-in_default-place_of-clause-moments g c = λ first r schema. let D = g.D.Device in let k = c.args.self.now in
    no_call D k.relations k.counters first g.met.D.Device.only_now k.core _ refl r schema

pub returns-in_err-reply-clause-moments : goal.returns-in_err-reply-clause-moments
returns-in_err-reply-clause-moments g c = λ first r schema. let D = g.D.Device in let k = c.args.self.now in
    meanwhile D k.relations k.counters first g.met.D.Device.only_now k.core _ c.step-outcome.ensures.stepped.moments r schema

pub returns-in-Ended-clause-moments : goal.returns-in-Ended-clause-moments
returns-in-Ended-clause-moments g c = λ first r schema. let D = g.D.Device in let k = c.args.self.now in
    meanwhile D k.relations k.counters first g.met.D.Device.only_now k.core _ c.step-outcome.ensures.stepped.moments r schema

pub returns-in-Going-clause-moments : goal.returns-in-Going-clause-moments
returns-in-Going-clause-moments g c = λ first r schema. let D = g.D.Device in let k = c.args.self.now in
    meanwhile D k.relations k.counters first g.met.D.Device.only_now k.core _ c.step-outcome.ensures.stepped.moments r schema

pub returns-in_err-reply-clause-leaves : goal.returns-in_err-reply-clause-leaves
returns-in_err-reply-clause-leaves g c = record {
  writes =
      let p = err_from_is_err_and c.from_residual.result c.from_residual.ensures.1 in
      subst (λ (res : Result Stepped Refusal). WritesOnePage (appended c.args.self.now.core.operations.store.log) (appended c.step-outcome.new.self.operations.store.log) res) (sym p.1) (subst (StepWrites (appended c.args.self.now.core.operations.store.log) (appended c.step-outcome.new.self.operations.store.log)) c.in_err-reply.was c.step-outcome.ensures.stepped.writes);
  durable = search rules;
  states = search rules;
  commits = search rules;
  numbers = search rules;
}

pub returns-in-Ended-clause-leaves : goal.returns-in-Ended-clause-leaves
returns-in-Ended-clause-leaves g c = record {
  writes = subst (StepWrites (appended c.args.self.now.core.operations.store.log) (appended c.step-outcome.new.self.operations.store.log)) (c.in_ok-reply.was ∙ ap Ok c.in-Ended.is) c.step-outcome.ensures.stepped.writes;
  durable = search rules;
  states = search rules;
  commits = search rules;
  numbers = search rules;
}

pub returns-in-Going-clause-leaves : goal.returns-in-Going-clause-leaves
returns-in-Going-clause-leaves g c = record {
  writes =
      reported_writes c.step-outcome.new.self.running.items (appended c.args.self.now.core.operations.store.log) (appended c.step-outcome.new.self.operations.store.log) c.in-Going.going c.stepped.result c.stepped.ensures (subst (StepWrites (appended c.args.self.now.core.operations.store.log) (appended c.step-outcome.new.self.operations.store.log)) (c.in_ok-reply.was ∙ ap Ok c.in-Going.is) c.step-outcome.ensures.stepped.writes);
  durable = search rules;
  states = search rules;
  commits = search rules;
  numbers = search rules;
}
