use Rattle.mt_pool.specs.declared.store.Store.{Store}
use mathlib.Core.Logic.{∥∥₁_map}
use Rattle.std.proofs.Common.{rules, ◌∙◌, Ok, ap}
use Rattle.mt_live.specs.Machine.{State, gone}
use Rattle.mt_live.specs.Undoing.{last_effect}
use Rattle.mt_txn.proofs.Showing.{well_either}
use Rattle.std.proofs.lemmas.Result.{err_from_is_err_and}
use Rattle.mt_txn.proofs.Answering.{err_aborted}
use Rattle.mt_txn.proofs.Showing.{sound_of, led, well_led, stays_led, back_stands}
use Rattle.std.proofs.Common.{◌≡◌, ◌≤◌, sym, subst}
use Rattle.std.specs.Prelude.{Result}
use Rattle.mt_base.specs.declared.refusal.Refusal.{Refusal}
use Rattle.mt_pool.specs.Views.{pages}
use Rattle.mt_core.specs.Work.{undo_steps}
use Rattle.mt_core.specs.declared.parts.Core.{Core}
use Rattle.mt_txn.specs.Work.{LowersUndoing, NoneAreLeft}
use Rattle.mt_txn.specs.declared.answers.AbortStepped.{AbortStepped}
use Rattle.mt_txn.proofs.Restarting.{either_goes, no_call, restarts_on, stays_goes}
use Rattle.mt_pool.proofs.Reading.{reads_nothing}
use Rattle.mt_core.specs.Work.{steps_in}
use Rattle.std.proofs.Common.{◌++◌, ◌∷◌, []}
use Rattle.mt_frame.specs.declared.records.Record.TheVariants as record_of
use Rattle.mt_log.specs.Words.{appended}
use Rattle.mt_txn.specs.Writes.{LogsEnd, UndoingWrites}
use Rattle.mt_txn.proofs.Answering.{logs_none}
use Rattle.mt_txn.proofs.kernel.Kernel.undo_next.Goals as goal

pub undo_begin-requires-clause-safe : goal.undo_begin-requires-clause-safe
undo_begin-requires-clause-safe g c = sound_of g.D.Device c.args.self.now.relations c.args.self.now.counters c.args.self.now.core c.args.self.now.well

pub invariant_of-self : goal.invariant_of-self
invariant_of-self g c = record { well = well_led g.D.Device c.args.self.now.relations c.args.self.now.counters c.args.self.now.core c.undo_begin.new.self (λ z. z) (stays_led g.D.Device c.args.self.now.relations c.args.self.now.counters c.args.self.now.core c.undo_begin.new.self c.undo_begin.ensures.state) c.args.self.now.well; starts = ∥∥₁_map c.args.self.now.starts (λ (first, r). let D = g.D.Device in let k = c.args.self.now in (first, restarts_on D k.relations k.counters first k.core c.undo_begin.new.self (stays_goes D k.core c.undo_begin.new.self c.undo_begin.ensures.state) (c.undo_begin.ensures.restartable) r)); schema = c.args.self.now.schema }

pub invariant_of-self-then-branch : goal.invariant_of-self-then-branch
invariant_of-self-then-branch g c = record { well = well_led g.D.Device c.args.self.now.relations c.args.self.now.counters c.args.self.now.core c.undo_begin.new.self (λ z. z) (stays_led g.D.Device c.args.self.now.relations c.args.self.now.counters c.args.self.now.core c.undo_begin.new.self c.undo_begin.ensures.state) c.args.self.now.well; starts = ∥∥₁_map c.args.self.now.starts (λ (first, r). let D = g.D.Device in let k = c.args.self.now in (first, restarts_on D k.relations k.counters first k.core c.undo_begin.new.self (stays_goes D k.core c.undo_begin.new.self c.undo_begin.ensures.state) (c.undo_begin.ensures.restartable) r)); schema = c.args.self.now.schema }

pub abort_end-requires-clause-safe : goal.abort_end-requires-clause-safe
abort_end-requires-clause-safe g c = sound_of g.D.Device c.args.self.now.relations c.args.self.now.counters c.undo_begin.new.self (well_led g.D.Device c.args.self.now.relations c.args.self.now.counters c.args.self.now.core c.undo_begin.new.self (λ z. z) (stays_led g.D.Device c.args.self.now.relations c.args.self.now.counters c.args.self.now.core c.undo_begin.new.self c.undo_begin.ensures.state) c.args.self.now.well)

pub invariant_of-self-2 : goal.invariant_of-self-2
invariant_of-self-2 g c = record { well = well_either g.D.Device c.args.self.now.relations c.args.self.now.counters c.undo_begin.new.self c.abort_end.new.self (λ s. gone s c.args.txn) c.abort_end.result c.abort_end.ensures.gone c.abort_end.ensures.err (well_led g.D.Device c.args.self.now.relations c.args.self.now.counters c.args.self.now.core c.undo_begin.new.self (λ z. z) (stays_led g.D.Device c.args.self.now.relations c.args.self.now.counters c.args.self.now.core c.undo_begin.new.self c.undo_begin.ensures.state) c.args.self.now.well); starts = ∥∥₁_map c.args.self.now.starts (λ (first, r). let D = g.D.Device in let k = c.args.self.now in (first, restarts_on D k.relations k.counters first c.undo_begin.new.self c.abort_end.new.self (either_goes D c.undo_begin.new.self c.abort_end.new.self (λ s. gone s c.args.txn) c.abort_end.result c.abort_end.ensures.gone c.abort_end.ensures.err) c.abort_end.ensures.restartable (restarts_on D k.relations k.counters first k.core c.undo_begin.new.self (stays_goes D k.core c.undo_begin.new.self c.undo_begin.ensures.state) (c.undo_begin.ensures.restartable) r))); schema = c.args.self.now.schema }

pub returns-in_err-undo_begin-clause-steps : goal.returns-in_err-undo_begin-clause-steps
returns-in_err-undo_begin-clause-steps g c = record {
  why = search rules;
  fails = search rules;
  quiet = search rules;
  states = search rules;
  work = let k = c.args.self.now.core in let n = c.undo_begin.new.self in
      let p = err_from_is_err_and c.from_residual.result c.from_residual.ensures.1 in
      subst (λ (r : Result AbortStepped Refusal). LowersUndoing NoneAreLeft (pages k.operations.store.pool) r (undo_steps k c.args.txn) (undo_steps n c.args.txn)) (sym p.1) c.in_err-undo_begin.ensures.begins.err_left;
  other = search rules;
  full = search rules;
  durable = search rules;
  commits = search rules;
  err_states = search rules;
  ends = search rules;
  schema = search rules;
  restarts = λ first r. let D = g.D.Device in let k = c.args.self.now in
      restarts_on D k.relations k.counters first k.core c.undo_begin.new.self (stays_goes D k.core c.undo_begin.new.self c.undo_begin.ensures.state) (c.undo_begin.ensures.restartable) r;
  moments = λ first r schema. let D = g.D.Device in let k = c.args.self.now in
      no_call D k.relations k.counters first g.met.D.Device.only_now k.core _ (ap (λ (s : Store g.row.D.Denot). s.device) c.undo_begin.ensures.keeps.store) r schema;
  reads = reads_nothing g.D.Device _ _ (ap (λ (s : Store g.row.D.Denot). s.device) c.undo_begin.ensures.keeps.store);
  others = c.undo_begin.ensures.keeps.others;
  leads = λ first s shows. let p = err_from_is_err_and c.from_residual.result c.from_residual.ensures.1 in
      err_aborted _ s c.args.txn c.from_residual.result p.0 p.1 (led g.D.Device c.args.self.now.relations c.args.self.now.counters c.args.self.now.core c.undo_begin.new.self (λ z. z) first s (stays_led g.D.Device c.args.self.now.relations c.args.self.now.counters c.args.self.now.core c.undo_begin.new.self c.undo_begin.ensures.state) shows);
}

pub returns-then-branch-clause-steps : goal.returns-then-branch-clause-steps
returns-then-branch-clause-steps g c = record {
  why = search rules;
  fails = search rules;
  quiet = search rules;
  states = search rules;
  work = c.undo_begin.ensures.begins.fewer (c.in_ok-undo_begin.was ∙ ap Ok c.if-branch.true);
  other = search rules;
  full = search rules;
  durable = search rules;
  commits = search rules;
  err_states = search rules;
  ends = search rules;
  schema = search rules;
  restarts = λ first r. let D = g.D.Device in let k = c.args.self.now in
      restarts_on D k.relations k.counters first k.core c.undo_begin.new.self (stays_goes D k.core c.undo_begin.new.self c.undo_begin.ensures.state) (c.undo_begin.ensures.restartable) r;
  moments = λ first r schema. let D = g.D.Device in let k = c.args.self.now in
      no_call D k.relations k.counters first g.met.D.Device.only_now k.core _ (ap (λ (s : Store g.row.D.Denot). s.device) c.undo_begin.ensures.keeps.store) r schema;
  reads = reads_nothing g.D.Device _ _ (ap (λ (s : Store g.row.D.Denot). s.device) c.undo_begin.ensures.keeps.store);
  others = c.undo_begin.ensures.keeps.others;
  leads = λ first s shows. back_stands g.D.Device c.args.self.now.relations c.args.self.now.counters c.undo_begin.new.self first s c.args.txn (led g.D.Device c.args.self.now.relations c.args.self.now.counters c.args.self.now.core c.undo_begin.new.self (λ z. z) first s (stays_led g.D.Device c.args.self.now.relations c.args.self.now.counters c.args.self.now.core c.undo_begin.new.self c.undo_begin.ensures.state) shows);
}

pub returns-in_err-abort_end-clause-steps : goal.returns-in_err-abort_end-clause-steps
returns-in_err-abort_end-clause-steps g c = record {
  why = search rules;
  fails = search rules;
  quiet = search rules;
  states = search rules;
  work = let k = c.args.self.now.core in let n = c.abort_end.new.self in
      let p = err_from_is_err_and c.from_residual-in_err-abort_end.result c.from_residual-in_err-abort_end.ensures.1 in
      let same : c.undo_begin.new.self ≡ k = c.undo_begin.ensures.begins.same (c.in_ok-undo_begin.was ∙ ap Ok c.if-branch.false) in
      let few : undo_steps n c.args.txn ≤ undo_steps k c.args.txn = subst (λ (x : Core g.row.D.Denot). undo_steps n c.args.txn ≤ undo_steps x c.args.txn) same c.in_err-abort_end.ensures.err_left in
      subst (λ (r : Result AbortStepped Refusal). LowersUndoing NoneAreLeft (pages k.operations.store.pool) r (undo_steps k c.args.txn) (undo_steps n c.args.txn)) (sym p.1) few;
  other = search rules;
  full = search rules;
  durable = search rules;
  commits = search rules;
  err_states = search rules;
  ends = search rules;
  schema = search rules;
  restarts = λ first r. let D = g.D.Device in let k = c.args.self.now in
      restarts_on D k.relations k.counters first c.undo_begin.new.self c.abort_end.new.self (either_goes D c.undo_begin.new.self c.abort_end.new.self (λ s. gone s c.args.txn) c.abort_end.result c.abort_end.ensures.gone c.abort_end.ensures.err) c.abort_end.ensures.restartable
      (restarts_on D k.relations k.counters first k.core c.undo_begin.new.self (stays_goes D k.core c.undo_begin.new.self c.undo_begin.ensures.state) (c.undo_begin.ensures.restartable) r);
  moments = λ first r schema. let D = g.D.Device in let k = c.args.self.now in
      no_call D k.relations k.counters first g.met.D.Device.only_now k.core _ (c.abort_end.ensures.keeps.device ∙ ap (λ (s : Store g.row.D.Denot). s.device) c.undo_begin.ensures.keeps.store) r schema;
  reads = reads_nothing g.D.Device _ _ (c.abort_end.ensures.keeps.device ∙ ap (λ (s : Store g.row.D.Denot). s.device) c.undo_begin.ensures.keeps.store);
  others = λ u other. ap (λ v. steps_in v.items u) c.abort_end.ensures.keeps.running ∙ c.undo_begin.ensures.keeps.others u other;
  leads = λ first s shows. let p = err_from_is_err_and c.from_residual-in_err-abort_end.result c.from_residual-in_err-abort_end.ensures.1 in
      err_aborted _ s c.args.txn c.from_residual-in_err-abort_end.result p.0 p.1 (led g.D.Device c.args.self.now.relations c.args.self.now.counters c.undo_begin.new.self c.abort_end.new.self (λ z. z) first s (λ origin base safe. (base, c.in_err-abort_end.ensures.err origin base safe)) (led g.D.Device c.args.self.now.relations c.args.self.now.counters c.args.self.now.core c.undo_begin.new.self (λ z. z) first s (stays_led g.D.Device c.args.self.now.relations c.args.self.now.counters c.args.self.now.core c.undo_begin.new.self c.undo_begin.ensures.state) shows));
}

pub returns-clause-steps : goal.returns-clause-steps
returns-clause-steps g c = record {
  why = search rules;
  fails = search rules;
  quiet = search rules;
  states = search rules;
  work = let same : c.undo_begin.new.self ≡ c.args.self.now.core = c.undo_begin.ensures.begins.same (c.in_ok-undo_begin.was ∙ ap Ok c.if-branch.false) in
      ap (λ (x : Core g.row.D.Denot). undo_steps x c.args.txn) (sym same) ∙ c.in_ok-abort_end.ensures.ends.none_left;
  other = search rules;
  full = search rules;
  durable = search rules;
  commits = search rules;
  err_states = search rules;
  ends = search rules;
  schema = search rules;
  restarts = λ first r. let D = g.D.Device in let k = c.args.self.now in
      restarts_on D k.relations k.counters first c.undo_begin.new.self c.abort_end.new.self (either_goes D c.undo_begin.new.self c.abort_end.new.self (λ s. gone s c.args.txn) c.abort_end.result c.abort_end.ensures.gone c.abort_end.ensures.err) c.abort_end.ensures.restartable
      (restarts_on D k.relations k.counters first k.core c.undo_begin.new.self (stays_goes D k.core c.undo_begin.new.self c.undo_begin.ensures.state) (c.undo_begin.ensures.restartable) r);
  moments = λ first r schema. let D = g.D.Device in let k = c.args.self.now in
      no_call D k.relations k.counters first g.met.D.Device.only_now k.core _ (c.abort_end.ensures.keeps.device ∙ ap (λ (s : Store g.row.D.Denot). s.device) c.undo_begin.ensures.keeps.store) r schema;
  reads = reads_nothing g.D.Device _ _ (c.abort_end.ensures.keeps.device ∙ ap (λ (s : Store g.row.D.Denot). s.device) c.undo_begin.ensures.keeps.store);
  others = λ u other. ap (λ v. steps_in v.items u) c.abort_end.ensures.keeps.running ∙ c.undo_begin.ensures.keeps.others u other;
  leads = λ first s shows. (
    led g.D.Device c.args.self.now.relations c.args.self.now.counters c.undo_begin.new.self c.abort_end.new.self (λ z. gone z c.args.txn) first s (λ origin base safe. (base, c.in_ok-abort_end.ensures.gone origin base safe)) (led g.D.Device c.args.self.now.relations c.args.self.now.counters c.args.self.now.core c.undo_begin.new.self (λ z. z) first s (stays_led g.D.Device c.args.self.now.relations c.args.self.now.counters c.args.self.now.core c.undo_begin.new.self c.undo_begin.ensures.state) shows),
    ∥∥₁_map shows (λ (origin, base, is, x). ap (λ (z : State). last_effect c.args.txn z.standing) x.state ∙ c.undo_begin.ensures.nothing (c.in_ok-undo_begin.was ∙ ap Ok c.if-branch.false)),
  );
}

pub returns-in_err-undo_begin-clause-writes : goal.returns-in_err-undo_begin-clause-writes
returns-in_err-undo_begin-clause-writes g c =
    let old = appended c.args.self.now.core.operations.store.log in let new = appended c.undo_begin.new.self.operations.store.log in
    let p = err_from_is_err_and c.from_residual.result c.from_residual.ensures.1 in
    subst (UndoingWrites (LogsEnd c.args.txn) old new) (sym p.1) (ap (λ (s : Store g.row.D.Denot). appended s.log) c.undo_begin.ensures.keeps.store)

pub returns-then-branch-clause-writes : goal.returns-then-branch-clause-writes
returns-then-branch-clause-writes g c = logs_none (LogsEnd c.args.txn) _ _ (ap (λ (s : Store g.row.D.Denot). appended s.log) c.undo_begin.ensures.keeps.store)

pub returns-in_err-abort_end-clause-writes : goal.returns-in_err-abort_end-clause-writes
returns-in_err-abort_end-clause-writes g c =
    let old = appended c.args.self.now.core.operations.store.log in let new = appended c.abort_end.new.self.operations.store.log in
    let p = err_from_is_err_and c.from_residual-in_err-abort_end.result c.from_residual-in_err-abort_end.ensures.1 in
    subst (UndoingWrites (LogsEnd c.args.txn) old new) (sym p.1)
    (c.in_err-abort_end.ensures.unappended ∙ ap (λ (s : Store g.row.D.Denot). appended s.log) c.undo_begin.ensures.keeps.store)

pub returns-clause-writes : goal.returns-clause-writes
returns-clause-writes g c =
    c.in_ok-abort_end.ensures.ends.ended
    ∙ ap (λ (s : Store g.row.D.Denot). appended s.log ++ record_of.AbortEnd c.args.txn ∷ []) c.undo_begin.ensures.keeps.store
