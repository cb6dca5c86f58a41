use Rattle.std.proofs.Common.{rules, ap, refl}
use Rattle.mt_core.specs.declared.parts.Core.{Core}
use mathlib.Core.Logic.{∥∥₁_elim, ∥∥₁_map}
use Rattle.std.proofs.Props.{props}
use Rattle.mt_txn.proofs.Showing.{led, well_led, stays_led}
use Rattle.mt_txn.proofs.Restarting.{no_call, restarts_on, stays_goes}
use Rattle.mt_txn.proofs.kernel.Kernel.abort_begin.Goals as goal

pub invariant_of-self : goal.invariant_of-self
invariant_of-self g c = record { well = well_led g.D.Device c.args.self.now.relations c.args.self.now.counters c.args.self.now.core c.abort_begin.new.self (λ z. z) (stays_led g.D.Device c.args.self.now.relations c.args.self.now.counters c.args.self.now.core c.abort_begin.new.self c.abort_begin.ensures.state) c.args.self.now.well; starts = ∥∥₁_map c.args.self.now.starts (λ (first, r). let D = g.D.Device in let k = c.args.self.now in (first, restarts_on D k.relations k.counters first k.core c.abort_begin.new.self (stays_goes D k.core c.abort_begin.new.self c.abort_begin.ensures.state) (c.abort_begin.ensures.restartable) r)); schema = c.args.self.now.schema }

pub returns-clause-state : goal.returns-clause-state
returns-clause-state g c = λ first s shows. led g.D.Device c.args.self.now.relations c.args.self.now.counters c.args.self.now.core c.abort_begin.new.self (λ z. z) first s (stays_led g.D.Device c.args.self.now.relations c.args.self.now.counters c.args.self.now.core c.abort_begin.new.self c.abort_begin.ensures.state) shows

pub returns-clause-begins : goal.returns-clause-begins
returns-clause-begins g c = let rest = c.abort_begin.ensures.rest in record {
  state = c.abort_begin.ensures.aborts;
  work = ∥∥₁_elim c.args.self.now.well (hlevel props) (λ (origin, base, is, safe). c.abort_begin.ensures.few origin base safe);
  running = search rules;
  numbers = search rules;
  commits = search rules;
  counts = c.abort_begin.ensures.count;
  store = ap (λ (x : Core g.row.D.Denot). x.operations.store) rest;
  locks = search rules;
}

pub returns-clause-restarts : goal.returns-clause-restarts
returns-clause-restarts g c = λ first r. let D = g.D.Device in let k = c.args.self.now in
    restarts_on D k.relations k.counters first k.core c.abort_begin.new.self (stays_goes D k.core c.abort_begin.new.self c.abort_begin.ensures.state) (c.abort_begin.ensures.restartable) r

pub returns-in-Some-clause-moments : goal.returns-in-Some-clause-moments
returns-in-Some-clause-moments g c = λ first r schema. let D = g.D.Device in let k = c.args.self.now in
    no_call D k.relations k.counters first g.met.D.Device.only_now k.core _ refl r schema

pub returns-clause-moments : goal.returns-clause-moments
returns-clause-moments g c = λ first r schema. let D = g.D.Device in let k = c.args.self.now in
    no_call D k.relations k.counters first g.met.D.Device.only_now k.core _ (ap (λ (x : Core g.row.D.Denot). x.operations.store.device) c.abort_begin.ensures.rest) r schema
