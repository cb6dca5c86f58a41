use mathlib.Core.Logic.{∥∥₁_map}
use Rattle.mt_disk.specs.Disk.{LeavesOnly}
use Rattle.mt_log.proofs.Stepped.{stepped}
use Rattle.mt_log.specs.Words.{IsStep, appended}
use Rattle.mt_log.specs.declared.log.Forced.TheVariants.{Durable, Idle, More}
use Rattle.mt_pool.specs.Kept.{Explains}
use Rattle.mt_pool.specs.declared.store.Store.{Store}
use Rattle.std.proofs.Common.{refl}
use Rattle.std.proofs.Common.{rules, ◌++◌, ◌∙◌, ℕ, List, ap, sym, subst, arith}
use Rattle.std.specs.Prelude.{Ok}
use Rattle.std.proofs.lemmas.Result.{err_from_is_err_and}
use Rattle.mt_core.specs.Booked.{booked_each, durable_txns}
use Rattle.mt_pool.specs.declared.pool.Pool.{Pool}
use Rattle.mt_txn.specs.Well.{ShowsIn}
use Rattle.mt_core.proofs.Lessening.{undo_same}
use Rattle.mt_txn.proofs.Answering.{err_forced}
use Rattle.mt_txn.proofs.Showing.{sound_of, led, well_led, stays_led}
use Rattle.mt_txn.proofs.Restarting.{meanwhile, no_call, place_durable, restarts_on, stays_goes, step_of}
use Rattle.mt_txn.proofs.kernel.Kernel.force_step.Goals as goal

pub force_step-outcome-requires : goal.force_step-outcome-requires
force_step-outcome-requires g c = record { safe = sound_of g.D.Device c.args.self.now.relations c.args.self.now.counters c.args.self.now.core c.args.self.now.well }

pub invariant_of-self : goal.invariant_of-self
invariant_of-self g c = record { well = well_led g.D.Device c.args.self.now.relations c.args.self.now.counters c.args.self.now.core c.force_step-outcome.new.self (λ z. z) (stays_led g.D.Device c.args.self.now.relations c.args.self.now.counters c.args.self.now.core c.force_step-outcome.new.self c.force_step-outcome.ensures.state) c.args.self.now.well; starts = ∥∥₁_map c.args.self.now.starts (λ (first, r). let D = g.D.Device in let k = c.args.self.now in (first, restarts_on D k.relations k.counters first k.core c.force_step-outcome.new.self (stays_goes D k.core c.force_step-outcome.new.self c.force_step-outcome.ensures.state) (c.force_step-outcome.ensures.restartable) r)); schema = c.args.self.now.schema }

pub returns-in_err-outcome-clause-forced : goal.returns-in_err-outcome-clause-forced
returns-in_err-outcome-clause-forced g c = λ first s shows. let p = err_from_is_err_and c.from_residual-in_err-outcome.result c.from_residual-in_err-outcome.ensures.1 in
    err_forced first s _ c.from_residual-in_err-outcome.result p.0 p.1 (led g.D.Device c.args.self.now.relations c.args.self.now.counters c.args.self.now.core c.force_step-outcome.new.self (λ z. z) first s (stays_led g.D.Device c.args.self.now.relations c.args.self.now.counters c.args.self.now.core c.force_step-outcome.new.self c.force_step-outcome.ensures.state) shows)

pub invariant_of-self-in-More : goal.invariant_of-self-in-More
invariant_of-self-in-More g c = record { well = well_led g.D.Device c.args.self.now.relations c.args.self.now.counters c.args.self.now.core c.force_step-outcome.new.self (λ z. z) (stays_led g.D.Device c.args.self.now.relations c.args.self.now.counters c.args.self.now.core c.force_step-outcome.new.self c.force_step-outcome.ensures.state) c.args.self.now.well; starts = ∥∥₁_map c.args.self.now.starts (λ (first, r). let D = g.D.Device in let k = c.args.self.now in (first, restarts_on D k.relations k.counters first k.core c.force_step-outcome.new.self (stays_goes D k.core c.force_step-outcome.new.self c.force_step-outcome.ensures.state) (c.force_step-outcome.ensures.restartable) r)); schema = c.args.self.now.schema }

pub invariant_of-self-in-Idle : goal.invariant_of-self-in-Idle
invariant_of-self-in-Idle g c = record { well = well_led g.D.Device c.args.self.now.relations c.args.self.now.counters c.args.self.now.core c.force_step-outcome.new.self (λ z. z) (stays_led g.D.Device c.args.self.now.relations c.args.self.now.counters c.args.self.now.core c.force_step-outcome.new.self c.force_step-outcome.ensures.state) c.args.self.now.well; starts = ∥∥₁_map c.args.self.now.starts (λ (first, r). let D = g.D.Device in let k = c.args.self.now in (first, restarts_on D k.relations k.counters first k.core c.force_step-outcome.new.self (stays_goes D k.core c.force_step-outcome.new.self c.force_step-outcome.ensures.state) (c.force_step-outcome.ensures.restartable) r)); schema = c.args.self.now.schema }

pub leave_durable-requires-clause-safe : goal.leave_durable-requires-clause-safe
leave_durable-requires-clause-safe g c = sound_of g.D.Device c.args.self.now.relations c.args.self.now.counters c.force_step-outcome.new.self (well_led g.D.Device c.args.self.now.relations c.args.self.now.counters c.args.self.now.core c.force_step-outcome.new.self (λ z. z) (stays_led g.D.Device c.args.self.now.relations c.args.self.now.counters c.args.self.now.core c.force_step-outcome.new.self c.force_step-outcome.ensures.state) c.args.self.now.well)

pub invariant_of-self-in-Durable : goal.invariant_of-self-in-Durable
invariant_of-self-in-Durable g c = record { well = well_led g.D.Device c.args.self.now.relations c.args.self.now.counters c.force_step-outcome.new.self c.leave_durable.new.self (λ z. booked_each z (durable_txns c.force_step-outcome.new.self.commits.items c.in-Durable.place)) (λ origin base safe. (base, c.leave_durable.ensures.left origin base safe)) (well_led g.D.Device c.args.self.now.relations c.args.self.now.counters c.args.self.now.core c.force_step-outcome.new.self (λ z. z) (stays_led g.D.Device c.args.self.now.relations c.args.self.now.counters c.args.self.now.core c.force_step-outcome.new.self c.force_step-outcome.ensures.state) c.args.self.now.well); starts = ∥∥₁_map c.args.self.now.starts (λ (first, r). let D = g.D.Device in let k = c.args.self.now in (first, restarts_on D k.relations k.counters first c.force_step-outcome.new.self c.leave_durable.new.self (λ origin base safe. (base, (c.leave_durable.ensures.left origin base safe).consistent)) (c.leave_durable.ensures.restartable (place_durable k.core.operations.store.log c.force_step-outcome.new.self.operations.store.log c.in-Durable.place c.force_step-outcome.result (c.in_ok-outcome.was ∙ ap Ok c.in-Durable.is) c.force_step-outcome.ensures.steps)) (restarts_on D k.relations k.counters first k.core c.force_step-outcome.new.self (stays_goes D k.core c.force_step-outcome.new.self c.force_step-outcome.ensures.state) (c.force_step-outcome.ensures.restartable) r))); schema = c.args.self.now.schema }

pub returns-in-More-clause-forced : goal.returns-in-More-clause-forced
returns-in-More-clause-forced g c = λ first s shows. led g.D.Device c.args.self.now.relations c.args.self.now.counters c.args.self.now.core c.force_step-outcome.new.self (λ z. z) first s (stays_led g.D.Device c.args.self.now.relations c.args.self.now.counters c.args.self.now.core c.force_step-outcome.new.self c.force_step-outcome.ensures.state) shows

pub returns-in-Idle-clause-forced : goal.returns-in-Idle-clause-forced
returns-in-Idle-clause-forced g c = λ first s shows. led g.D.Device c.args.self.now.relations c.args.self.now.counters c.args.self.now.core c.force_step-outcome.new.self (λ z. z) first s (stays_led g.D.Device c.args.self.now.relations c.args.self.now.counters c.args.self.now.core c.force_step-outcome.new.self c.force_step-outcome.ensures.state) shows

pub returns-in-Durable-clause-forced : goal.returns-in-Durable-clause-forced
returns-in-Durable-clause-forced g c = λ first s shows. subst (λ (ts : List ℕ). ShowsIn g.D.Device c.args.self.now.relations c.args.self.now.counters first (booked_each s ts) c.leave_durable.new.self) (sym (c.leave_durable.ensures.names ∙ ap (λ (ts : List ℕ). ts ++ durable_txns c.force_step-outcome.new.self.commits.items c.in-Durable.place) c.in_ok-names.ensures.items))
    (led g.D.Device c.args.self.now.relations c.args.self.now.counters c.force_step-outcome.new.self c.leave_durable.new.self (λ z. booked_each z (durable_txns c.force_step-outcome.new.self.commits.items c.in-Durable.place)) first s (λ origin base safe. (base, c.leave_durable.ensures.left origin base safe)) (led g.D.Device c.args.self.now.relations c.args.self.now.counters c.args.self.now.core c.force_step-outcome.new.self (λ z. z) first s (stays_led g.D.Device c.args.self.now.relations c.args.self.now.counters c.args.self.now.core c.force_step-outcome.new.self c.force_step-outcome.ensures.state) shows))

pub returns-in_err-outcome-clause-keeps : goal.returns-in_err-outcome-clause-keeps
returns-in_err-outcome-clause-keeps g c = record {
  pool = search rules;
  ruling = search rules;
  appended = (stepped c.args.self.now.core.operations.store.log c.force_step-outcome.new.self.operations.store.log c.force_step-outcome.result c.force_step-outcome.ensures.steps).same_records;
  running = search rules;
  numbers = search rules;
  states = search rules;
  undo = undo_same c.args.self.now.core c.force_step-outcome.new.self c.force_step-outcome.ensures.rest (ap (λ (p : Pool). p.of_page) c.force_step-outcome.ensures.pool);
  err = search rules;
}

pub returns-in-More-clause-keeps : goal.returns-in-More-clause-keeps
returns-in-More-clause-keeps g c = record {
  pool = search rules;
  ruling = search rules;
  appended = (stepped c.args.self.now.core.operations.store.log c.force_step-outcome.new.self.operations.store.log c.force_step-outcome.result c.force_step-outcome.ensures.steps).same_records;
  running = search rules;
  numbers = search rules;
  states = search rules;
  undo = undo_same c.args.self.now.core c.force_step-outcome.new.self c.force_step-outcome.ensures.rest (ap (λ (p : Pool). p.of_page) c.force_step-outcome.ensures.pool);
  err = search rules;
}

pub returns-in-Idle-clause-keeps : goal.returns-in-Idle-clause-keeps
returns-in-Idle-clause-keeps g c = record {
  pool = search rules;
  ruling = search rules;
  appended = search rules;
  running = search rules;
  numbers = search rules;
  states = search rules;
  undo = undo_same c.args.self.now.core c.force_step-outcome.new.self c.force_step-outcome.ensures.rest (ap (λ (p : Pool). p.of_page) c.force_step-outcome.ensures.pool);
  err = search rules;
}

pub returns-in-Durable-clause-keeps : goal.returns-in-Durable-clause-keeps
returns-in-Durable-clause-keeps g c = record {
  pool = search rules;
  ruling = search rules;
  appended = ap (λ (s : Store g.row.D.Denot). appended s.log) c.leave_durable.ensures.store
      ∙ (stepped c.args.self.now.core.operations.store.log c.force_step-outcome.new.self.operations.store.log c.force_step-outcome.result c.force_step-outcome.ensures.steps).same_records;
  running = search rules;
  numbers = search rules;
  states = search rules;
  undo = λ t. let later = c.leave_durable.ensures.undo t in let before = undo_same c.args.self.now.core c.force_step-outcome.new.self c.force_step-outcome.ensures.rest (ap (λ (p : Pool). p.of_page) c.force_step-outcome.ensures.pool) t in omega (arith, later, before);
  err = search rules;
}

pub returns-in_err-outcome-clause-restarts : goal.returns-in_err-outcome-clause-restarts
returns-in_err-outcome-clause-restarts g c = λ first r. let D = g.D.Device in let k = c.args.self.now in
    restarts_on D k.relations k.counters first k.core c.force_step-outcome.new.self (stays_goes D k.core c.force_step-outcome.new.self c.force_step-outcome.ensures.state) (c.force_step-outcome.ensures.restartable) r

pub returns-in-More-clause-restarts : goal.returns-in-More-clause-restarts
returns-in-More-clause-restarts g c = λ first r. let D = g.D.Device in let k = c.args.self.now in
    restarts_on D k.relations k.counters first k.core c.force_step-outcome.new.self (stays_goes D k.core c.force_step-outcome.new.self c.force_step-outcome.ensures.state) (c.force_step-outcome.ensures.restartable) r

pub returns-in-Idle-clause-restarts : goal.returns-in-Idle-clause-restarts
returns-in-Idle-clause-restarts g c = λ first r. let D = g.D.Device in let k = c.args.self.now in
    restarts_on D k.relations k.counters first k.core c.force_step-outcome.new.self (stays_goes D k.core c.force_step-outcome.new.self c.force_step-outcome.ensures.state) (c.force_step-outcome.ensures.restartable) r

pub returns-in-Durable-clause-restarts : goal.returns-in-Durable-clause-restarts
returns-in-Durable-clause-restarts g c = λ first r. let D = g.D.Device in let k = c.args.self.now in
    restarts_on D k.relations k.counters first c.force_step-outcome.new.self c.leave_durable.new.self (λ origin base safe. (base, (c.leave_durable.ensures.left origin base safe).consistent)) (c.leave_durable.ensures.restartable (place_durable k.core.operations.store.log c.force_step-outcome.new.self.operations.store.log c.in-Durable.place c.force_step-outcome.result (c.in_ok-outcome.was ∙ ap Ok c.in-Durable.is) c.force_step-outcome.ensures.steps))
    (restarts_on D k.relations k.counters first k.core c.force_step-outcome.new.self (stays_goes D k.core c.force_step-outcome.new.self c.force_step-outcome.ensures.state) (c.force_step-outcome.ensures.restartable) r)

pub returns-then-has_failed-clause-moments : goal.returns-then-has_failed-clause-moments
returns-then-has_failed-clause-moments g c = λ first r schema. let D = g.D.Device in let k = c.args.self.now in
    no_call D k.relations k.counters first g.met.D.Device.only_now k.core _ refl r schema

pub returns-in_err-names-clause-moments : goal.returns-in_err-names-clause-moments
returns-in_err-names-clause-moments g c = λ first r schema. let D = g.D.Device in let k = c.args.self.now in
    no_call D k.relations k.counters first g.met.D.Device.only_now k.core _ refl r schema

pub returns-in_err-outcome-clause-moments : goal.returns-in_err-outcome-clause-moments
returns-in_err-outcome-clause-moments g c = λ first r schema. let D = g.D.Device in let k = c.args.self.now in
    meanwhile D k.relations k.counters first g.met.D.Device.only_now k.core _ c.force_step-outcome.ensures.moments r schema

pub returns-in-More-clause-moments : goal.returns-in-More-clause-moments
returns-in-More-clause-moments g c = λ first r schema. let D = g.D.Device in let k = c.args.self.now in
    meanwhile D k.relations k.counters first g.met.D.Device.only_now k.core _ c.force_step-outcome.ensures.moments r schema

pub returns-in-Idle-clause-moments : goal.returns-in-Idle-clause-moments
returns-in-Idle-clause-moments g c = λ first r schema. let D = g.D.Device in let k = c.args.self.now in
    meanwhile D k.relations k.counters first g.met.D.Device.only_now k.core _ c.force_step-outcome.ensures.moments r schema

pub returns-in-Durable-clause-moments : goal.returns-in-Durable-clause-moments
returns-in-Durable-clause-moments g c = λ first r schema. let D = g.D.Device in let k = c.args.self.now in
    meanwhile D k.relations k.counters first g.met.D.Device.only_now k.core _
    (λ opening kept. subst (λ (s : Store g.row.D.Denot). LeavesOnly D.moment D.left_since k.core.operations.store.device s.device (Explains opening k.core.operations.store)) (sym c.leave_durable.ensures.store) (c.force_step-outcome.ensures.moments opening kept)) r schema

pub returns-in-More-clause-log : goal.returns-in-More-clause-log
returns-in-More-clause-log g c =
    (step_of c.args.self.now.core.operations.store.log c.force_step-outcome.new.self.operations.store.log More c.force_step-outcome.result (c.in_ok-outcome.was ∙ ap Ok c.in-More.is) c.force_step-outcome.ensures.steps, search rules)

pub returns-in-Idle-clause-log : goal.returns-in-Idle-clause-log
returns-in-Idle-clause-log g c =
    (step_of c.args.self.now.core.operations.store.log c.force_step-outcome.new.self.operations.store.log Idle c.force_step-outcome.result (c.in_ok-outcome.was ∙ ap Ok c.in-Idle.is) c.force_step-outcome.ensures.steps, search rules)

pub returns-in-Durable-clause-log : goal.returns-in-Durable-clause-log
returns-in-Durable-clause-log g c = let old = c.args.self.now.core.operations.store.log in let place = c.in-Durable.place in (
  place,
  subst (λ (s : Store g.row.D.Denot). IsStep old (Durable place) s.log) (sym c.leave_durable.ensures.store)
      (step_of old c.force_step-outcome.new.self.operations.store.log (Durable place) c.force_step-outcome.result (c.in_ok-outcome.was ∙ ap Ok c.in-Durable.is) c.force_step-outcome.ensures.steps),
  search rules,
  search rules,
)
