use Rattle.std.proofs.Common.{refl}
use mathlib.Core.Logic.{∥∥₁_map}
use Rattle.mt_txn.proofs.Showing.{sound_of, led, well_led, stays_led}
use Rattle.mt_txn.proofs.Restarting.{no_call, restarts_on, stays_goes}
use Rattle.mt_txn.proofs.kernel.Kernel.commit_begin.Goals as goal

pub commit_begin-requires-clause-safe : goal.commit_begin-requires-clause-safe
commit_begin-requires-clause-safe g c = sound_of g.D.Device c.args.self.now.relations c.args.self.now.counters c.args.self.now.core c.args.self.now.well

pub invariant_of-self : goal.invariant_of-self
invariant_of-self g c = record { well = well_led g.D.Device c.args.self.now.relations c.args.self.now.counters c.args.self.now.core c.commit_begin.new.self (λ z. z) (stays_led g.D.Device c.args.self.now.relations c.args.self.now.counters c.args.self.now.core c.commit_begin.new.self c.commit_begin.ensures.state) c.args.self.now.well; starts = ∥∥₁_map c.args.self.now.starts (λ (first, r). let D = g.D.Device in let k = c.args.self.now in (first, restarts_on D k.relations k.counters first k.core c.commit_begin.new.self (stays_goes D k.core c.commit_begin.new.self c.commit_begin.ensures.state) (c.commit_begin.ensures.restartable) r)); schema = c.args.self.now.schema }

pub returns-in_err-place-clause-state : goal.returns-in_err-place-clause-state
returns-in_err-place-clause-state g c = λ first s shows. led g.D.Device c.args.self.now.relations c.args.self.now.counters c.args.self.now.core c.commit_begin.new.self (λ z. z) first s (stays_led g.D.Device c.args.self.now.relations c.args.self.now.counters c.args.self.now.core c.commit_begin.new.self c.commit_begin.ensures.state) shows

pub returns-clause-state : goal.returns-clause-state
returns-clause-state g c = λ first s shows. led g.D.Device c.args.self.now.relations c.args.self.now.counters c.args.self.now.core c.commit_begin.new.self (λ z. z) first s (stays_led g.D.Device c.args.self.now.relations c.args.self.now.counters c.args.self.now.core c.commit_begin.new.self c.commit_begin.ensures.state) shows

pub returns-clause-restarts : goal.returns-clause-restarts
returns-clause-restarts g c = λ first r. let D = g.D.Device in let k = c.args.self.now in
    restarts_on D k.relations k.counters first k.core c.commit_begin.new.self (stays_goes D k.core c.commit_begin.new.self c.commit_begin.ensures.state) (c.commit_begin.ensures.restartable) r

pub returns-in_err-place-clause-restarts : goal.returns-in_err-place-clause-restarts
returns-in_err-place-clause-restarts g c = λ first r. let D = g.D.Device in let k = c.args.self.now in
    restarts_on D k.relations k.counters first k.core c.commit_begin.new.self (stays_goes D k.core c.commit_begin.new.self c.commit_begin.ensures.state) (c.commit_begin.ensures.restartable) r

pub returns-in-Some-clause-moments : goal.returns-in-Some-clause-moments
returns-in-Some-clause-moments g c = λ first r schema. let D = g.D.Device in let k = c.args.self.now in
    no_call D k.relations k.counters first g.met.D.Device.only_now k.core _ refl r schema

pub returns-in_err-place-clause-moments : goal.returns-in_err-place-clause-moments
returns-in_err-place-clause-moments g c = λ first r schema. let D = g.D.Device in let k = c.args.self.now in
    no_call D k.relations k.counters first g.met.D.Device.only_now k.core _ c.commit_begin.ensures.keeps.device r schema

pub returns-clause-moments : goal.returns-clause-moments
returns-clause-moments g c = λ first r schema. let D = g.D.Device in let k = c.args.self.now in
    no_call D k.relations k.counters first g.met.D.Device.only_now k.core _ c.commit_begin.ensures.keeps.device r schema
