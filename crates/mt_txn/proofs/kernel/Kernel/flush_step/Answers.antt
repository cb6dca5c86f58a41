use Rattle.std.proofs.Common.{refl}
use mathlib.Core.Logic.{∥∥₁_map}
use Rattle.mt_pool.proofs.Flushing.{flushed}
use Rattle.mt_core.proofs.Lessening.{undo_same}
use Rattle.mt_txn.proofs.Showing.{sound_of, led, well_led, stays_led}
use Rattle.mt_txn.proofs.Restarting.{meanwhile, no_call, restarts_on, stays_goes}
use Rattle.mt_txn.proofs.kernel.Kernel.flush_step.Goals as goal

pub flush_step-outcome-requires : goal.flush_step-outcome-requires
flush_step-outcome-requires g c = record { safe = sound_of g.D.Device c.args.self.now.relations c.args.self.now.counters c.args.self.now.core c.args.self.now.well }

pub invariant_of-self : goal.invariant_of-self
invariant_of-self g c = record { well = well_led g.D.Device c.args.self.now.relations c.args.self.now.counters c.args.self.now.core c.flush_step-outcome.new.self (λ z. z) (stays_led g.D.Device c.args.self.now.relations c.args.self.now.counters c.args.self.now.core c.flush_step-outcome.new.self c.flush_step-outcome.ensures.state) c.args.self.now.well; starts = ∥∥₁_map c.args.self.now.starts (λ (first, r). let D = g.D.Device in let k = c.args.self.now in (first, restarts_on D k.relations k.counters first k.core c.flush_step-outcome.new.self (stays_goes D k.core c.flush_step-outcome.new.self c.flush_step-outcome.ensures.state) (c.flush_step-outcome.ensures.restartable) r)); schema = c.args.self.now.schema }

pub returns-in-Ok-clause-state : goal.returns-in-Ok-clause-state
returns-in-Ok-clause-state g c = λ first s shows. led g.D.Device c.args.self.now.relations c.args.self.now.counters c.args.self.now.core c.flush_step-outcome.new.self (λ z. z) first s (stays_led g.D.Device c.args.self.now.relations c.args.self.now.counters c.args.self.now.core c.flush_step-outcome.new.self c.flush_step-outcome.ensures.state) shows

pub returns-in-Err-clause-state : goal.returns-in-Err-clause-state
returns-in-Err-clause-state g c = λ first s shows. led g.D.Device c.args.self.now.relations c.args.self.now.counters c.args.self.now.core c.flush_step-outcome.new.self (λ z. z) first s (stays_led g.D.Device c.args.self.now.relations c.args.self.now.counters c.args.self.now.core c.flush_step-outcome.new.self c.flush_step-outcome.ensures.state) shows

pub returns-in-Ok-clause-undo : goal.returns-in-Ok-clause-undo
returns-in-Ok-clause-undo g c = undo_same c.args.self.now.core c.flush_step-outcome.new.self c.flush_step-outcome.ensures.rest (flushed _ _ _ c.flush_step-outcome.result c.flush_step-outcome.ensures.steps).there

pub returns-in-Err-clause-undo : goal.returns-in-Err-clause-undo
returns-in-Err-clause-undo g c = undo_same c.args.self.now.core c.flush_step-outcome.new.self c.flush_step-outcome.ensures.rest (flushed _ _ _ c.flush_step-outcome.result c.flush_step-outcome.ensures.steps).there

pub returns-in-Ok-clause-restarts : goal.returns-in-Ok-clause-restarts
returns-in-Ok-clause-restarts g c = λ first r. let D = g.D.Device in let k = c.args.self.now in
    restarts_on D k.relations k.counters first k.core c.flush_step-outcome.new.self (stays_goes D k.core c.flush_step-outcome.new.self c.flush_step-outcome.ensures.state) (c.flush_step-outcome.ensures.restartable) r

pub returns-in-Err-clause-restarts : goal.returns-in-Err-clause-restarts
returns-in-Err-clause-restarts g c = λ first r. let D = g.D.Device in let k = c.args.self.now in
    restarts_on D k.relations k.counters first k.core c.flush_step-outcome.new.self (stays_goes D k.core c.flush_step-outcome.new.self c.flush_step-outcome.ensures.state) (c.flush_step-outcome.ensures.restartable) r

pub returns-then-has_failed-clause-moments : goal.returns-then-has_failed-clause-moments
returns-then-has_failed-clause-moments g c = λ first r schema. let D = g.D.Device in let k = c.args.self.now in
    no_call D k.relations k.counters first g.met.D.Device.only_now k.core _ refl r schema

pub returns-in-Ok-clause-moments : goal.returns-in-Ok-clause-moments
returns-in-Ok-clause-moments g c = λ first r schema. let D = g.D.Device in let k = c.args.self.now in
    meanwhile D k.relations k.counters first g.met.D.Device.only_now k.core _ c.flush_step-outcome.ensures.moments r schema

pub returns-in-Err-clause-moments : goal.returns-in-Err-clause-moments
returns-in-Err-clause-moments g c = λ first r schema. let D = g.D.Device in let k = c.args.self.now in
    meanwhile D k.relations k.counters first g.met.D.Device.only_now k.core _ c.flush_step-outcome.ensures.moments r schema
