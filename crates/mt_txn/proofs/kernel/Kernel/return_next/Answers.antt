use Rattle.mt_pool.specs.declared.store.Store.{Store}
use mathlib.Core.Logic.{∥∥₁_map}
use Rattle.std.proofs.Common.{rules, ◌∙◌, Some, Ok, ap}
use Rattle.mt_live.specs.Machine.{State, settled}
use Rattle.mt_live.specs.Undoing.{after_first, last_effect}
use Rattle.mt_live.specs.declared.transactions.TxnState.TheVariants.{Open}
use Rattle.mt_core.specs.Answered.{NoneAfter}
use Rattle.mt_core.specs.Consistent.{SetsState}
use Rattle.mt_log.specs.Words.{durable}
use Rattle.std.proofs.lemmas.Result.{err_from_is_err_and}
use Rattle.mt_txn.proofs.Answering.{err_returned}
use Rattle.mt_txn.specs.Events.IsReturn.{stays}
use Rattle.mt_txn.proofs.Showing.{sound_of, led, well_led, stays_led}
use Rattle.std.proofs.Common.{◌≡◌, ◌≤◌, sym, subst}
use Rattle.std.specs.Prelude.{Result}
use Rattle.mt_base.specs.declared.refusal.Refusal.{Refusal}
use Rattle.mt_pool.specs.Views.{pages}
use Rattle.mt_core.specs.Work.{undo_steps}
use Rattle.mt_core.specs.declared.parts.Core.{Core}
use Rattle.mt_txn.specs.Work.{LowersUndoing, NoMoreAreLeft}
use Rattle.mt_txn.specs.declared.answers.AbortStepped.{AbortStepped}
use Rattle.mt_txn.proofs.Restarting.{no_call, restarts_on, stays_goes}
use Rattle.mt_pool.proofs.Reading.{reads_nothing}
use Rattle.mt_core.specs.Work.{steps_in}
use Rattle.mt_txn.proofs.kernel.Kernel.return_next.Goals as goal

pub return_next-requires-clause-safe : goal.return_next-requires-clause-safe
return_next-requires-clause-safe g c = sound_of g.D.Device c.args.self.now.relations c.args.self.now.counters c.args.self.now.core c.args.self.now.well

pub invariant_of-self : goal.invariant_of-self
invariant_of-self g c = record { well = well_led g.D.Device c.args.self.now.relations c.args.self.now.counters c.args.self.now.core c.return_next.new.self (λ z. z) (stays_led g.D.Device c.args.self.now.relations c.args.self.now.counters c.args.self.now.core c.return_next.new.self c.return_next.ensures.state) c.args.self.now.well; starts = ∥∥₁_map c.args.self.now.starts (λ (first, r). let D = g.D.Device in let k = c.args.self.now in (first, restarts_on D k.relations k.counters first k.core c.return_next.new.self (stays_goes D k.core c.return_next.new.self c.return_next.ensures.state) (c.return_next.ensures.restartable) r)); schema = c.args.self.now.schema }

pub invariant_of-self-then-branch : goal.invariant_of-self-then-branch
invariant_of-self-then-branch g c = record { well = well_led g.D.Device c.args.self.now.relations c.args.self.now.counters c.args.self.now.core c.return_next.new.self (λ z. z) (stays_led g.D.Device c.args.self.now.relations c.args.self.now.counters c.args.self.now.core c.return_next.new.self c.return_next.ensures.state) c.args.self.now.well; starts = ∥∥₁_map c.args.self.now.starts (λ (first, r). let D = g.D.Device in let k = c.args.self.now in (first, restarts_on D k.relations k.counters first k.core c.return_next.new.self (stays_goes D k.core c.return_next.new.self c.return_next.ensures.state) (c.return_next.ensures.restartable) r)); schema = c.args.self.now.schema }

pub returns-in_err-return_next-clause-steps : goal.returns-in_err-return_next-clause-steps
returns-in_err-return_next-clause-steps g c = record {
  why = search rules;
  fails = search rules;
  quiet = search rules;
  states = search rules;
  work = let k = c.args.self.now.core in let n = c.return_next.new.self in
      let p = err_from_is_err_and c.from_residual.result c.from_residual.ensures.1 in
      subst (λ (r : Result AbortStepped Refusal). LowersUndoing NoMoreAreLeft (pages k.operations.store.pool) r (undo_steps k c.args.txn) (undo_steps n c.args.txn)) (sym p.1) c.in_err-return_next.ensures.begins.err_left;
  other = search rules;
  full = search rules;
  durable = search rules;
  commits = search rules;
  err_states = search rules;
  ends = search rules;
  schema = search rules;
  restarts = λ first r. let D = g.D.Device in let k = c.args.self.now in
      restarts_on D k.relations k.counters first k.core c.return_next.new.self (stays_goes D k.core c.return_next.new.self c.return_next.ensures.state) (c.return_next.ensures.restartable) r;
  moments = λ first r schema. let D = g.D.Device in let k = c.args.self.now in
      no_call D k.relations k.counters first g.met.D.Device.only_now k.core _ (ap (λ (s : Store g.row.D.Denot). s.device) c.return_next.ensures.keeps.store) r schema;
  reads = reads_nothing g.D.Device _ _ (ap (λ (s : Store g.row.D.Denot). s.device) c.return_next.ensures.keeps.store);
  others = c.return_next.ensures.keeps.others;
  leads = λ first s shows. let p = err_from_is_err_and c.from_residual.result c.from_residual.ensures.1 in
      err_returned _ s c.args.txn c.args.first c.from_residual.result p.0 p.1 (led g.D.Device c.args.self.now.relations c.args.self.now.counters c.args.self.now.core c.return_next.new.self (λ z. z) first s (stays_led g.D.Device c.args.self.now.relations c.args.self.now.counters c.args.self.now.core c.return_next.new.self c.return_next.ensures.state) shows);
}

pub returns-then-branch-clause-steps : goal.returns-then-branch-clause-steps
returns-then-branch-clause-steps g c = record {
  why = search rules;
  fails = search rules;
  quiet = search rules;
  states = search rules;
  work = c.return_next.ensures.begins.fewer (c.in_ok-return_next.was ∙ ap Ok c.if-branch.true);
  other = search rules;
  full = search rules;
  durable = search rules;
  commits = search rules;
  err_states = search rules;
  ends = search rules;
  schema = search rules;
  restarts = λ first r. let D = g.D.Device in let k = c.args.self.now in
      restarts_on D k.relations k.counters first k.core c.return_next.new.self (stays_goes D k.core c.return_next.new.self c.return_next.ensures.state) (c.return_next.ensures.restartable) r;
  moments = λ first r schema. let D = g.D.Device in let k = c.args.self.now in
      no_call D k.relations k.counters first g.met.D.Device.only_now k.core _ (ap (λ (s : Store g.row.D.Denot). s.device) c.return_next.ensures.keeps.store) r schema;
  reads = reads_nothing g.D.Device _ _ (ap (λ (s : Store g.row.D.Denot). s.device) c.return_next.ensures.keeps.store);
  others = c.return_next.ensures.keeps.others;
  leads = λ first s shows. ∣ (s, stays, led g.D.Device c.args.self.now.relations c.args.self.now.counters c.args.self.now.core c.return_next.new.self (λ z. z) first s (stays_led g.D.Device c.args.self.now.relations c.args.self.now.counters c.args.self.now.core c.return_next.new.self c.return_next.ensures.state) shows) ∣₁;
}

pub return_end-requires-clause-safe : goal.return_end-requires-clause-safe
return_end-requires-clause-safe g c = sound_of g.D.Device c.args.self.now.relations c.args.self.now.counters c.return_next.new.self (well_led g.D.Device c.args.self.now.relations c.args.self.now.counters c.args.self.now.core c.return_next.new.self (λ z. z) (stays_led g.D.Device c.args.self.now.relations c.args.self.now.counters c.args.self.now.core c.return_next.new.self c.return_next.ensures.state) c.args.self.now.well)

pub return_end-requires-clause-nothing : goal.return_end-requires-clause-nothing
return_end-requires-clause-nothing g c = let is = c.in_ok-return_next.was ∙ ap Ok c.if-branch.false in
    subst (λ (x : Core g.row.D.Denot). NoneAfter x c.args.txn c.args.first) (sym (c.return_next.ensures.begins.same is)) (c.return_next.ensures.nothing is)

pub invariant_of-self-2 : goal.invariant_of-self-2
invariant_of-self-2 g c = let D = g.D.Device in let k = c.args.self.now in let m = c.return_next.new.self in let n = c.return_end.new.self in record {
  well = well_led D k.relations k.counters m n (λ s. settled s c.args.txn c.args.first) (λ origin base safe. (base, c.return_end.ensures.settled origin base safe))
      (well_led D k.relations k.counters k.core m (λ z. z) (stays_led D k.relations k.counters k.core m c.return_next.ensures.state) k.well);
  starts = ∥∥₁_map k.starts (λ (first, r). (
    first,
    restarts_on D k.relations k.counters first m n (λ origin base safe. (base, (c.return_end.ensures.settled origin base safe).consistent)) c.return_end.ensures.restartable
        (restarts_on D k.relations k.counters first k.core m (stays_goes D k.core m c.return_next.ensures.state) c.return_next.ensures.restartable r),
  ));
  schema = k.schema;
}

pub returns-clause-steps : goal.returns-clause-steps
returns-clause-steps g c = let D = g.D.Device in let k = c.args.self.now in let m = c.return_next.new.self in let n = c.return_end.new.self in
    let is = c.in_ok-return_next.was ∙ ap Ok c.if-branch.false in
    let same : m ≡ k.core = c.return_next.ensures.begins.same is in
    let rest = c.return_end.ensures.rest in
    let store : n.operations.store ≡ k.core.operations.store = ap (λ (x : Core g.row.D.Denot). x.operations.store) rest ∙ ap (λ (x : Core g.row.D.Denot). x.operations.store) same in
    record {
      why = search rules;
      fails = search rules;
      quiet = λ fine. ap (λ (s : Store g.row.D.Denot). D.faults s.device) store;
      states = search rules;
      work = subst (λ (x : Core g.row.D.Denot). undo_steps n c.args.txn ≤ undo_steps x c.args.txn) same c.return_end.ensures.left;
      other = search rules;
      full = search rules;
      durable = ap (λ (s : Store g.row.D.Denot). durable s.log) store;
      commits = ap (λ (x : Core g.row.D.Denot). x.commits.items) rest ∙ ap (λ (x : Core g.row.D.Denot). x.commits.items) same;
      err_states = search rules;
      ends = λ ended. (subst (λ (x : Core g.row.D.Denot). SetsState x n c.args.txn (Some Open)) same c.return_end.ensures.opened, c.return_end.ensures.count);
      schema = search rules;
      restarts = λ first r. restarts_on D k.relations k.counters first m n (λ origin base safe. (base, (c.return_end.ensures.settled origin base safe).consistent)) c.return_end.ensures.restartable
          (restarts_on D k.relations k.counters first k.core m (stays_goes D k.core m c.return_next.ensures.state) c.return_next.ensures.restartable r);
      moments = λ first r schema. no_call D k.relations k.counters first g.met.D.Device.only_now k.core _ (ap (λ (s : Store g.row.D.Denot). s.device) store) r schema;
      reads = reads_nothing g.D.Device _ _ (ap (λ (s : Store g.row.D.Denot). s.device) store);
      others = λ u other. ap (λ (x : Core g.row.D.Denot). steps_in x.running.items u) rest ∙ ap (λ (x : Core g.row.D.Denot). steps_in x.running.items u) same;
      leads = λ first s shows. (
        led D k.relations k.counters m n (λ z. settled z c.args.txn c.args.first) first s (λ origin base safe. (base, c.return_end.ensures.settled origin base safe))
            (led D k.relations k.counters k.core m (λ z. z) first s (stays_led D k.relations k.counters k.core m c.return_next.ensures.state) shows),
        ∥∥₁_map shows (λ (origin, base, own, x). ap (λ (z : State). last_effect c.args.txn (after_first c.args.txn c.args.first z.standing)) x.state ∙ (c.return_next.ensures.nothing is).effect),
      );
    }
