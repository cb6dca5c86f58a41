use Rattle.mt_core.specs.Runs.{state_in}
use Rattle.std.proofs.Common.{rules, ◌∙◌, Ok, ap, subst}
use Rattle.std.proofs.lemmas.Result.{err_from_is_err_and}
use Rattle.std.specs.Prelude.{Result}
use mathlib.Core.Logic.{∥∥₁_map}
use Rattle.mt_base.specs.declared.refusal.Refusal.{Refusal}
use Rattle.mt_core.specs.Consistent.{AtPlace}
use Rattle.mt_core.specs.Steps.{UndoSteps, NamesOther}
use Rattle.mt_core.specs.declared.steps.Stepping.{Stepping}
use Rattle.mt_txn.proofs.Answering.{err_inverted, going_inverted, going_left}
use Rattle.mt_core.specs.PageLocks.{KeepsPageLocks}
use Rattle.mt_txn.proofs.Barring.{abort_locks, abort_goes, abort_other}
use Rattle.mt_txn.proofs.Showing.{ended_inverted, sound_of, undo_shown, undo_well, inverse_stage, UndoShown}
use Rattle.std.proofs.Common.{◌≤◌, sym}
use Rattle.mt_pool.specs.Views.{pages}
use Rattle.mt_core.specs.Work.{LowersUndo, undo_steps}
use Rattle.mt_txn.proofs.Showing.{at_place}
use Rattle.mt_txn.specs.Work.{LowersUndoing, NoneAreLeft}
use Rattle.mt_txn.specs.declared.answers.AbortStepped.{AbortStepped}
use Rattle.mt_txn.proofs.Restarting.{meanwhile, restarts_on, undo_goes}
use Rattle.mt_txn.proofs.Stepping.{others_of}
use Rattle.mt_txn.proofs.kernel.Kernel.undo_step.Goals as goal

pub undo_step-outcome-requires-clause-safe : goal.undo_step-outcome-requires-clause-safe
undo_step-outcome-requires-clause-safe g c = sound_of g.D.Device c.args.self.now.relations c.args.self.now.counters c.args.self.now.core c.args.self.now.well

pub undo_step-outcome-requires-clause-stage : goal.undo_step-outcome-requires-clause-stage
undo_step-outcome-requires-clause-stage g c = inverse_stage g.D.Device c.args.self.now.relations c.args.self.now.counters c.args.self.now.core c.args.place c.args.self.now.well c.requires.within (λ r there. (c.requires.own r there).1)

pub invariant_of-self : goal.invariant_of-self
invariant_of-self g c = record { well = undo_well g.D.Device c.args.self.now.relations c.args.self.now.counters c.args.self.now.core c.undo_step-outcome.new.self c.args.place c.undo_step-outcome.result c.requires.within c.undo_step-outcome.ensures.steps c.args.self.now.well; starts = ∥∥₁_map c.args.self.now.starts (λ (first, r). let D = g.D.Device in let k = c.args.self.now in (first, restarts_on D k.relations k.counters first k.core c.undo_step-outcome.new.self (undo_goes D k.core c.undo_step-outcome.new.self c.args.place c.undo_step-outcome.result c.requires.within c.undo_step-outcome.ensures.steps) (c.undo_step-outcome.ensures.restartable) r)); schema = c.args.self.now.schema }

pub returns-in-Going-clause-locks : goal.returns-in-Going-clause-locks
returns-in-Going-clause-locks g c = λ r at. let k = c.args.self.now.core in let n = c.undo_step-outcome.new.self in let place = c.args.place in
    let seen = g.D.Device.seen in let may_leave = g.D.Device.may_leave in
    let was = c.in_ok-reply.was ∙ ap Ok c.in-Going.is in
    abort_locks g.D.Device c.args.self.now.relations c.args.self.now.counters k n c.args.txn place c.in-Going.going c.going.result r (λ q there. (c.requires.own q there).0)
    (record {
      within = c.requires.within;
      states = c.undo_step-outcome.ensures.stepped.states;
      consistent = λ origin base safe. (subst (UndoSteps g.D.Device origin base k n place) was (c.undo_step-outcome.ensures.steps origin base safe)).consistent;
      names = λ origin base safe. subst (λ (x : Result Stepping Refusal). AtPlace k.running.items place (λ q. NamesOther n.running.items q.txn x)) was (c.undo_step-outcome.ensures.stepped.other origin base safe);
    }) c.args.self.now.well c.going.ensures (subst (KeepsPageLocks k n r) was (c.undo_step-outcome.ensures.stepped.locks r at))

pub returns-in_err-reply-clause-steps : goal.returns-in_err-reply-clause-steps
returns-in_err-reply-clause-steps g c = record {
  why = search rules;
  fails = search rules;
  quiet = search rules;
  states = search rules;
  work = let k = c.args.self.now.core in let n = c.undo_step-outcome.new.self in let all = pages k.operations.store.pool in
      let at = at_place k.running.items c.args.place c.requires.within in
      let lowers = subst (λ t. LowersUndo all c.undo_step-outcome.result (undo_steps k t) (undo_steps n t)) (c.requires.own at.0 at.1).0 (c.undo_step-outcome.ensures.lowers at.0 at.1) in
      let few : undo_steps n c.args.txn ≤ undo_steps k c.args.txn = subst (λ (r : Result Stepping Refusal). LowersUndo all r (undo_steps k c.args.txn) (undo_steps n c.args.txn)) c.in_err-reply.was lowers in
      let p = err_from_is_err_and c.from_residual.result c.from_residual.ensures.1 in
      subst (λ (r : Result AbortStepped Refusal). LowersUndoing NoneAreLeft all r (undo_steps k c.args.txn) (undo_steps n c.args.txn)) (sym p.1) few;
  other = search rules;
  full = search rules;
  durable = search rules;
  commits = search rules;
  err_states = search rules;
  ends = search rules;
  schema = search rules;
  restarts = λ first r. let D = g.D.Device in let k = c.args.self.now in
      restarts_on D k.relations k.counters first k.core c.undo_step-outcome.new.self (undo_goes D k.core c.undo_step-outcome.new.self c.args.place c.undo_step-outcome.result c.requires.within c.undo_step-outcome.ensures.steps) (c.undo_step-outcome.ensures.restartable) r;
  moments = λ first r schema. let D = g.D.Device in let k = c.args.self.now in
      meanwhile D k.relations k.counters first g.met.D.Device.only_now k.core _ c.undo_step-outcome.ensures.stepped.moments r schema;
  reads = c.undo_step-outcome.ensures.stepped.reads;
  others = others_of c.args.self.now.core.running.items c.undo_step-outcome.new.self.running.items c.args.place c.args.txn c.requires.within (λ r at. (c.requires.own r at).0) c.undo_step-outcome.ensures.stepped.others;
  leads = λ first s shows. let p = err_from_is_err_and c.from_residual.result c.from_residual.ensures.1 in
      err_inverted _ s c.args.txn (state_in c.args.self.now.core.live.members c.args.txn) c.from_residual.result p.0 p.1 (subst (UndoShown g.D.Device c.args.self.now.relations c.args.self.now.counters c.undo_step-outcome.new.self first s c.args.txn (state_in c.args.self.now.core.live.members c.args.txn)) (c.in_err-reply.was) (undo_shown g.D.Device c.args.self.now.relations c.args.self.now.counters c.args.self.now.core c.undo_step-outcome.new.self first s c.args.txn c.args.place c.undo_step-outcome.result c.requires.within (λ r there. (c.requires.own r there).0) c.undo_step-outcome.ensures.steps shows));
}

pub returns-in-Ended-clause-steps : goal.returns-in-Ended-clause-steps
returns-in-Ended-clause-steps g c = record {
  why = search rules;
  fails = search rules;
  quiet = search rules;
  states = search rules;
  work = let k = c.args.self.now.core in let n = c.undo_step-outcome.new.self in let all = pages k.operations.store.pool in
      let at = at_place k.running.items c.args.place c.requires.within in
      let lowers = subst (λ t. LowersUndo all c.undo_step-outcome.result (undo_steps k t) (undo_steps n t)) (c.requires.own at.0 at.1).0 (c.undo_step-outcome.ensures.lowers at.0 at.1) in
      subst (λ (r : Result Stepping Refusal). LowersUndo all r (undo_steps k c.args.txn) (undo_steps n c.args.txn)) (c.in_ok-reply.was ∙ ap Ok c.in-Ended.is) lowers;
  other = search rules;
  full = search rules;
  durable = search rules;
  commits = search rules;
  err_states = search rules;
  ends = search rules;
  schema = search rules;
  restarts = λ first r. let D = g.D.Device in let k = c.args.self.now in
      restarts_on D k.relations k.counters first k.core c.undo_step-outcome.new.self (undo_goes D k.core c.undo_step-outcome.new.self c.args.place c.undo_step-outcome.result c.requires.within c.undo_step-outcome.ensures.steps) (c.undo_step-outcome.ensures.restartable) r;
  moments = λ first r schema. let D = g.D.Device in let k = c.args.self.now in
      meanwhile D k.relations k.counters first g.met.D.Device.only_now k.core _ c.undo_step-outcome.ensures.stepped.moments r schema;
  reads = c.undo_step-outcome.ensures.stepped.reads;
  others = others_of c.args.self.now.core.running.items c.undo_step-outcome.new.self.running.items c.args.place c.args.txn c.requires.within (λ r at. (c.requires.own r at).0) c.undo_step-outcome.ensures.stepped.others;
  leads = λ first s shows. ended_inverted g.D.Device c.args.self.now.relations c.args.self.now.counters c.undo_step-outcome.new.self first s c.args.txn (state_in c.args.self.now.core.live.members c.args.txn) (subst (UndoShown g.D.Device c.args.self.now.relations c.args.self.now.counters c.undo_step-outcome.new.self first s c.args.txn (state_in c.args.self.now.core.live.members c.args.txn)) (c.in_ok-reply.was ∙ ap Ok c.in-Ended.is) (undo_shown g.D.Device c.args.self.now.relations c.args.self.now.counters c.args.self.now.core c.undo_step-outcome.new.self first s c.args.txn c.args.place c.undo_step-outcome.result c.requires.within (λ r there. (c.requires.own r there).0) c.undo_step-outcome.ensures.steps shows));
}

pub returns-in-Going-clause-steps : goal.returns-in-Going-clause-steps
returns-in-Going-clause-steps g c = record {
  why = search rules;
  fails = search rules;
  quiet = search rules;
  states = search rules;
  work = let k = c.args.self.now.core in let n = c.undo_step-outcome.new.self in let all = pages k.operations.store.pool in
      let at = at_place k.running.items c.args.place c.requires.within in
      let lowers = subst (λ t. LowersUndo all c.undo_step-outcome.result (undo_steps k t) (undo_steps n t)) (c.requires.own at.0 at.1).0 (c.undo_step-outcome.ensures.lowers at.0 at.1) in
      going_left n.running.items all (undo_steps k c.args.txn) (undo_steps n c.args.txn) c.in-Going.going c.going.result c.going.ensures (subst (λ (r : Result Stepping Refusal). LowersUndo all r (undo_steps k c.args.txn) (undo_steps n c.args.txn)) (c.in_ok-reply.was ∙ ap Ok c.in-Going.is) lowers);
  other = let k = c.args.self.now.core in let n = c.undo_step-outcome.new.self in let place = c.args.place in
      let seen = g.D.Device.seen in let may_leave = g.D.Device.may_leave in
      let was = c.in_ok-reply.was ∙ ap Ok c.in-Going.is in
      abort_other g.D.Device c.args.self.now.relations c.args.self.now.counters k n c.args.txn place c.in-Going.going c.going.result (λ r there. (c.requires.own r there).0)
      (record {
        within = c.requires.within;
        states = c.undo_step-outcome.ensures.stepped.states;
        consistent = λ origin base safe. (subst (UndoSteps g.D.Device origin base k n place) was (c.undo_step-outcome.ensures.steps origin base safe)).consistent;
        names = λ origin base safe. subst (λ (r : Result Stepping Refusal). AtPlace k.running.items place (λ q. NamesOther n.running.items q.txn r)) was (c.undo_step-outcome.ensures.stepped.other origin base safe);
      }) c.args.self.now.well c.going.ensures;
  full = search rules;
  durable = search rules;
  commits = search rules;
  err_states = search rules;
  ends = search rules;
  schema = search rules;
  restarts = λ first r. let D = g.D.Device in let k = c.args.self.now in
      restarts_on D k.relations k.counters first k.core c.undo_step-outcome.new.self (undo_goes D k.core c.undo_step-outcome.new.self c.args.place c.undo_step-outcome.result c.requires.within c.undo_step-outcome.ensures.steps) (c.undo_step-outcome.ensures.restartable) r;
  moments = λ first r schema. let D = g.D.Device in let k = c.args.self.now in
      meanwhile D k.relations k.counters first g.met.D.Device.only_now k.core _ c.undo_step-outcome.ensures.stepped.moments r schema;
  reads = c.undo_step-outcome.ensures.stepped.reads;
  others = others_of c.args.self.now.core.running.items c.undo_step-outcome.new.self.running.items c.args.place c.args.txn c.requires.within (λ r at. (c.requires.own r at).0) c.undo_step-outcome.ensures.stepped.others;
  leads = λ first s shows. going_inverted _ s c.args.txn (state_in c.args.self.now.core.live.members c.args.txn) c.going.result (abort_goes _ _ _ c.going.ensures) (subst (UndoShown g.D.Device c.args.self.now.relations c.args.self.now.counters c.undo_step-outcome.new.self first s c.args.txn (state_in c.args.self.now.core.live.members c.args.txn)) (c.in_ok-reply.was ∙ ap Ok c.in-Going.is) (undo_shown g.D.Device c.args.self.now.relations c.args.self.now.counters c.args.self.now.core c.undo_step-outcome.new.self first s c.args.txn c.args.place c.undo_step-outcome.result c.requires.within (λ r there. (c.requires.own r there).0) c.undo_step-outcome.ensures.steps shows));
}
