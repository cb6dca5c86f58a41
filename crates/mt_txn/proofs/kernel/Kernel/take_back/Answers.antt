use Rattle.std.proofs.lemmas.Result.{err_from_is_err_and}
use mathlib.Core.Logic.{∥∥₁_map}
use Rattle.mt_txn.proofs.Answering.{err_aborted}
use Rattle.mt_txn.proofs.Showing.{sound_of, back_shown, back_well, back_stands, BackShown}
use Rattle.std.proofs.Common.{rules, ◌∙◌, Ok, ap, subst}
use Rattle.mt_core.specs.Runs.{state_in}
use Rattle.std.proofs.Common.{◌≤◌, sym}
use Rattle.std.specs.Prelude.{Result}
use Rattle.mt_base.specs.declared.refusal.Refusal.{Refusal}
use Rattle.mt_op.specs.declared.answers.TakenBack.{TakenBack}
use Rattle.mt_pool.specs.Views.{pages}
use Rattle.mt_core.specs.Work.{LowersBack, undo_steps}
use Rattle.mt_txn.proofs.Showing.{at_place}
use Rattle.mt_txn.specs.Work.{LowersUndoing, NoneAreLeft}
use Rattle.mt_txn.specs.declared.answers.AbortStepped.{AbortStepped}
use Rattle.mt_txn.proofs.Restarting.{back_goes, meanwhile, restarts_on}
use Rattle.mt_txn.proofs.Stepping.{others_of}
use Rattle.std.proofs.Common.{inr}
use Rattle.mt_core.specs.Writes.{BackWrites}
use Rattle.mt_log.specs.Words.{appended}
use Rattle.mt_txn.specs.Writes.{LogsEnd, UndoingWrites}
use Rattle.mt_txn.proofs.Answering.{logs_none}
use Rattle.mt_txn.proofs.kernel.Kernel.take_back.Goals as goal

pub take_back_step-outcome-requires-clause-safe : goal.take_back_step-outcome-requires-clause-safe
take_back_step-outcome-requires-clause-safe g c = sound_of g.D.Device c.args.self.now.relations c.args.self.now.counters c.args.self.now.core c.args.self.now.well

pub take_back_step-outcome-requires-clause-aborting : goal.take_back_step-outcome-requires-clause-aborting
take_back_step-outcome-requires-clause-aborting g c = λ r there. let own = c.requires.own r there in (own.1, ap (state_in c.args.self.now.core.live.members) own.0 ∙ c.requires.aborting)

pub invariant_of-self : goal.invariant_of-self
invariant_of-self g c = record { well = back_well g.D.Device c.args.self.now.relations c.args.self.now.counters c.args.self.now.core c.take_back_step-outcome.new.self c.args.place c.take_back_step-outcome.result c.requires.within c.take_back_step-outcome.ensures.back c.args.self.now.well; starts = ∥∥₁_map c.args.self.now.starts (λ (first, r). let D = g.D.Device in let k = c.args.self.now in (first, restarts_on D k.relations k.counters first k.core c.take_back_step-outcome.new.self (back_goes D k.core c.take_back_step-outcome.new.self c.args.place c.take_back_step-outcome.result c.requires.within c.take_back_step-outcome.ensures.back) (c.take_back_step-outcome.ensures.restartable) r)); schema = c.args.self.now.schema }

pub returns-in_err-outcome-clause-steps : goal.returns-in_err-outcome-clause-steps
returns-in_err-outcome-clause-steps g c = record {
  why = search rules;
  fails = search rules;
  quiet = search rules;
  states = search rules;
  work = let k = c.args.self.now.core in let n = c.take_back_step-outcome.new.self in
      let at = at_place k.running.items c.args.place c.requires.within in
      let lowers = subst (λ t. LowersBack c.take_back_step-outcome.result (undo_steps k t) (undo_steps n t)) (c.requires.own at.0 at.1).0 (c.take_back_step-outcome.ensures.put.lowers at.0 at.1) in
      let few : undo_steps n c.args.txn ≤ undo_steps k c.args.txn = subst (λ (r : Result TakenBack Refusal). LowersBack r (undo_steps k c.args.txn) (undo_steps n c.args.txn)) c.in_err-outcome.was lowers in
      let p = err_from_is_err_and c.from_residual.result c.from_residual.ensures.1 in
      subst (λ (r : Result AbortStepped Refusal). LowersUndoing NoneAreLeft (pages k.operations.store.pool) r (undo_steps k c.args.txn) (undo_steps n c.args.txn)) (sym p.1) few;
  other = search rules;
  full = search rules;
  durable = search rules;
  commits = search rules;
  err_states = search rules;
  ends = search rules;
  schema = search rules;
  restarts = λ first r. let D = g.D.Device in let k = c.args.self.now in
      restarts_on D k.relations k.counters first k.core c.take_back_step-outcome.new.self (back_goes D k.core c.take_back_step-outcome.new.self c.args.place c.take_back_step-outcome.result c.requires.within c.take_back_step-outcome.ensures.back) (c.take_back_step-outcome.ensures.restartable) r;
  moments = λ first r schema. let D = g.D.Device in let k = c.args.self.now in
      meanwhile D k.relations k.counters first g.met.D.Device.only_now k.core _ c.take_back_step-outcome.ensures.put.moments r schema;
  reads = c.take_back_step-outcome.ensures.put.reads;
  others = others_of c.args.self.now.core.running.items c.take_back_step-outcome.new.self.running.items c.args.place c.args.txn c.requires.within (λ r at. (c.requires.own r at).0) c.take_back_step-outcome.ensures.put.others;
  leads = λ first s shows. let p = err_from_is_err_and c.from_residual.result c.from_residual.ensures.1 in
      err_aborted _ s c.args.txn c.from_residual.result p.0 p.1 (subst (BackShown g.D.Device c.args.self.now.relations c.args.self.now.counters c.take_back_step-outcome.new.self first s c.args.txn) c.in_err-outcome.was (back_shown g.D.Device c.args.self.now.relations c.args.self.now.counters c.args.self.now.core c.take_back_step-outcome.new.self first s c.args.txn c.args.place c.take_back_step-outcome.result c.requires.within (λ r there. (c.requires.own r there).0) c.take_back_step-outcome.ensures.back shows));
}

pub returns-in-More-clause-steps : goal.returns-in-More-clause-steps
returns-in-More-clause-steps g c = record {
  why = search rules;
  fails = search rules;
  quiet = search rules;
  states = search rules;
  work = let k = c.args.self.now.core in let n = c.take_back_step-outcome.new.self in
      let at = at_place k.running.items c.args.place c.requires.within in
      let lowers = subst (λ t. LowersBack c.take_back_step-outcome.result (undo_steps k t) (undo_steps n t)) (c.requires.own at.0 at.1).0 (c.take_back_step-outcome.ensures.put.lowers at.0 at.1) in
      subst (λ (r : Result TakenBack Refusal). LowersBack r (undo_steps k c.args.txn) (undo_steps n c.args.txn)) (c.in_ok-outcome.was ∙ ap Ok c.in-More.is) lowers;
  other = search rules;
  full = search rules;
  durable = search rules;
  commits = search rules;
  err_states = search rules;
  ends = search rules;
  schema = search rules;
  restarts = λ first r. let D = g.D.Device in let k = c.args.self.now in
      restarts_on D k.relations k.counters first k.core c.take_back_step-outcome.new.self (back_goes D k.core c.take_back_step-outcome.new.self c.args.place c.take_back_step-outcome.result c.requires.within c.take_back_step-outcome.ensures.back) (c.take_back_step-outcome.ensures.restartable) r;
  moments = λ first r schema. let D = g.D.Device in let k = c.args.self.now in
      meanwhile D k.relations k.counters first g.met.D.Device.only_now k.core _ c.take_back_step-outcome.ensures.put.moments r schema;
  reads = c.take_back_step-outcome.ensures.put.reads;
  others = others_of c.args.self.now.core.running.items c.take_back_step-outcome.new.self.running.items c.args.place c.args.txn c.requires.within (λ r at. (c.requires.own r at).0) c.take_back_step-outcome.ensures.put.others;
  leads = λ first s shows. back_stands g.D.Device c.args.self.now.relations c.args.self.now.counters c.take_back_step-outcome.new.self first s c.args.txn (subst (BackShown g.D.Device c.args.self.now.relations c.args.self.now.counters c.take_back_step-outcome.new.self first s c.args.txn) (c.in_ok-outcome.was ∙ ap Ok c.in-More.is)
      (back_shown g.D.Device c.args.self.now.relations c.args.self.now.counters c.args.self.now.core c.take_back_step-outcome.new.self first s c.args.txn c.args.place c.take_back_step-outcome.result c.requires.within (λ r there. (c.requires.own r there).0) c.take_back_step-outcome.ensures.back shows));
}

pub returns-in-Flush-clause-steps : goal.returns-in-Flush-clause-steps
returns-in-Flush-clause-steps g c = record {
  why = search rules;
  fails = search rules;
  quiet = search rules;
  states = search rules;
  work = let k = c.args.self.now.core in let n = c.take_back_step-outcome.new.self in
      let at = at_place k.running.items c.args.place c.requires.within in
      let lowers = subst (λ t. LowersBack c.take_back_step-outcome.result (undo_steps k t) (undo_steps n t)) (c.requires.own at.0 at.1).0 (c.take_back_step-outcome.ensures.put.lowers at.0 at.1) in
      subst (λ (r : Result TakenBack Refusal). LowersBack r (undo_steps k c.args.txn) (undo_steps n c.args.txn)) (c.in_ok-outcome.was ∙ ap Ok c.in-Flush.is) lowers;
  other = search rules;
  full = search rules;
  durable = search rules;
  commits = search rules;
  err_states = search rules;
  ends = search rules;
  schema = search rules;
  restarts = λ first r. let D = g.D.Device in let k = c.args.self.now in
      restarts_on D k.relations k.counters first k.core c.take_back_step-outcome.new.self (back_goes D k.core c.take_back_step-outcome.new.self c.args.place c.take_back_step-outcome.result c.requires.within c.take_back_step-outcome.ensures.back) (c.take_back_step-outcome.ensures.restartable) r;
  moments = λ first r schema. let D = g.D.Device in let k = c.args.self.now in
      meanwhile D k.relations k.counters first g.met.D.Device.only_now k.core _ c.take_back_step-outcome.ensures.put.moments r schema;
  reads = c.take_back_step-outcome.ensures.put.reads;
  others = others_of c.args.self.now.core.running.items c.take_back_step-outcome.new.self.running.items c.args.place c.args.txn c.requires.within (λ r at. (c.requires.own r at).0) c.take_back_step-outcome.ensures.put.others;
  leads = λ first s shows. subst (BackShown g.D.Device c.args.self.now.relations c.args.self.now.counters c.take_back_step-outcome.new.self first s c.args.txn) (c.in_ok-outcome.was ∙ ap Ok c.in-Flush.is)
      (back_shown g.D.Device c.args.self.now.relations c.args.self.now.counters c.args.self.now.core c.take_back_step-outcome.new.self first s c.args.txn c.args.place c.take_back_step-outcome.result c.requires.within (λ r there. (c.requires.own r there).0) c.take_back_step-outcome.ensures.back shows);
}

pub returns-in-Clear-clause-steps : goal.returns-in-Clear-clause-steps
returns-in-Clear-clause-steps g c = record {
  why = search rules;
  fails = search rules;
  quiet = search rules;
  states = search rules;
  work = let k = c.args.self.now.core in let n = c.take_back_step-outcome.new.self in
      let at = at_place k.running.items c.args.place c.requires.within in
      let lowers = subst (λ t. LowersBack c.take_back_step-outcome.result (undo_steps k t) (undo_steps n t)) (c.requires.own at.0 at.1).0 (c.take_back_step-outcome.ensures.put.lowers at.0 at.1) in
      subst (λ (r : Result TakenBack Refusal). LowersBack r (undo_steps k c.args.txn) (undo_steps n c.args.txn)) (c.in_ok-outcome.was ∙ ap Ok c.in-Clear.is) lowers;
  other = search rules;
  full = search rules;
  durable = search rules;
  commits = search rules;
  err_states = search rules;
  ends = search rules;
  schema = search rules;
  restarts = λ first r. let D = g.D.Device in let k = c.args.self.now in
      restarts_on D k.relations k.counters first k.core c.take_back_step-outcome.new.self (back_goes D k.core c.take_back_step-outcome.new.self c.args.place c.take_back_step-outcome.result c.requires.within c.take_back_step-outcome.ensures.back) (c.take_back_step-outcome.ensures.restartable) r;
  moments = λ first r schema. let D = g.D.Device in let k = c.args.self.now in
      meanwhile D k.relations k.counters first g.met.D.Device.only_now k.core _ c.take_back_step-outcome.ensures.put.moments r schema;
  reads = c.take_back_step-outcome.ensures.put.reads;
  others = others_of c.args.self.now.core.running.items c.take_back_step-outcome.new.self.running.items c.args.place c.args.txn c.requires.within (λ r at. (c.requires.own r at).0) c.take_back_step-outcome.ensures.put.others;
  leads = λ first s shows. subst (BackShown g.D.Device c.args.self.now.relations c.args.self.now.counters c.take_back_step-outcome.new.self first s c.args.txn) (c.in_ok-outcome.was ∙ ap Ok c.in-Clear.is)
      (back_shown g.D.Device c.args.self.now.relations c.args.self.now.counters c.args.self.now.core c.take_back_step-outcome.new.self first s c.args.txn c.args.place c.take_back_step-outcome.result c.requires.within (λ r there. (c.requires.own r there).0) c.take_back_step-outcome.ensures.back shows);
}

pub returns-in_err-outcome-clause-writes : goal.returns-in_err-outcome-clause-writes
returns-in_err-outcome-clause-writes g c =
    let old = appended c.args.self.now.core.operations.store.log in let new = appended c.take_back_step-outcome.new.self.operations.store.log in
    let p = err_from_is_err_and c.from_residual.result c.from_residual.ensures.1 in
    subst (UndoingWrites (LogsEnd c.args.txn) old new) (sym p.1) (subst (BackWrites old new) c.in_err-outcome.was c.take_back_step-outcome.ensures.put.writes)

pub returns-in-More-clause-writes : goal.returns-in-More-clause-writes
returns-in-More-clause-writes g c =
    let old = appended c.args.self.now.core.operations.store.log in let new = appended c.take_back_step-outcome.new.self.operations.store.log in
    logs_none (LogsEnd c.args.txn) old new (subst (BackWrites old new) (c.in_ok-outcome.was ∙ ap Ok c.in-More.is) c.take_back_step-outcome.ensures.put.writes)

pub returns-in-Flush-clause-writes : goal.returns-in-Flush-clause-writes
returns-in-Flush-clause-writes g c =
    let old = appended c.args.self.now.core.operations.store.log in let new = appended c.take_back_step-outcome.new.self.operations.store.log in
    subst (BackWrites old new) (c.in_ok-outcome.was ∙ ap Ok c.in-Flush.is) c.take_back_step-outcome.ensures.put.writes

pub returns-in-Clear-clause-writes : goal.returns-in-Clear-clause-writes
returns-in-Clear-clause-writes g c =
    let old = appended c.args.self.now.core.operations.store.log in let new = appended c.take_back_step-outcome.new.self.operations.store.log in
    inr (subst (BackWrites old new) (c.in_ok-outcome.was ∙ ap Ok c.in-Clear.is) c.take_back_step-outcome.ensures.put.writes)
