use Rattle.std.proofs.Common.{refl}
use Rattle.std.proofs.Common.{ap, length, sym, ◌∙◌}
use Rattle.std.proofs.lemmas.List.{nil_from_length}
use mathlib.Core.Logic.{∥∥₁_map}
use Rattle.mt_live.specs.declared.live.Live.{Live}
use Rattle.mt_txn.proofs.Showing.{led, sound_of, stays_led, well_led}
use Rattle.mt_txn.proofs.Surveyed.{base_reported, pages_reported}
use Rattle.mt_txn.proofs.Restarting.{meanwhile, no_call, restarts_on, stays_goes}
use Rattle.mt_txn.proofs.kernel.Kernel.survey.Goals as goal

pub survey-outcome-requires-clause-safe : goal.survey-outcome-requires-clause-safe
survey-outcome-requires-clause-safe g c = let k = c.args.self.now in sound_of g.D.Device k.relations k.counters k.core k.well

pub invariant_of-self : goal.invariant_of-self
invariant_of-self g c =
    let D = g.D.Device in let k = c.args.self.now in
    record { well = well_led D k.relations k.counters k.core c.survey-outcome.new.self (λ z. z) (stays_led D k.relations k.counters k.core c.survey-outcome.new.self c.survey-outcome.ensures.state) k.well; starts = ∥∥₁_map c.args.self.now.starts (λ (first, r). let D = g.D.Device in let k = c.args.self.now in (first, restarts_on D k.relations k.counters first k.core c.survey-outcome.new.self (stays_goes D k.core c.survey-outcome.new.self c.survey-outcome.ensures.state) (c.survey-outcome.ensures.restartable) r)); schema = c.args.self.now.schema }

pub returns-clause-base : goal.returns-clause-base
returns-clause-base g c = λ first s shows.
    let D = g.D.Device in let k = c.args.self.now in
    base_reported D k.core k.relations k.counters first s c.survey-outcome.result c.survey-outcome.ensures.surveyed shows

pub returns-clause-pages : goal.returns-clause-pages
returns-clause-pages g c =
    let D = g.D.Device in let k = c.args.self.now in
    pages_reported k c.survey-outcome.result (nil_from_length k.core.live.members (ap (λ (l : Live). length l.members) (sym c.live.ensures) ∙ sym c.count.ensures ∙ c.if-count-ne0.false)) c.survey-outcome.ensures.surveyed k.well

pub returns-clause-state : goal.returns-clause-state
returns-clause-state g c = λ first s shows.
    let D = g.D.Device in let k = c.args.self.now in
    led D k.relations k.counters k.core c.survey-outcome.new.self (λ z. z) first s (stays_led D k.relations k.counters k.core c.survey-outcome.new.self c.survey-outcome.ensures.state) shows

pub returns-clause-restarts : goal.returns-clause-restarts
returns-clause-restarts g c = λ first r. let D = g.D.Device in let k = c.args.self.now in
    restarts_on D k.relations k.counters first k.core c.survey-outcome.new.self (stays_goes D k.core c.survey-outcome.new.self c.survey-outcome.ensures.state) (c.survey-outcome.ensures.restartable) r

pub returns-then-has_failed-clause-moments : goal.returns-then-has_failed-clause-moments
returns-then-has_failed-clause-moments g c = λ first r schema. let D = g.D.Device in let k = c.args.self.now in
    no_call D k.relations k.counters first g.met.D.Device.only_now k.core _ refl r schema

pub returns-then-count-ne0-clause-moments : goal.returns-then-count-ne0-clause-moments
returns-then-count-ne0-clause-moments g c = λ first r schema. let D = g.D.Device in let k = c.args.self.now in
    no_call D k.relations k.counters first g.met.D.Device.only_now k.core _ refl r schema

pub returns-clause-moments : goal.returns-clause-moments
returns-clause-moments g c = λ first r schema. let D = g.D.Device in let k = c.args.self.now in
    meanwhile D k.relations k.counters first g.met.D.Device.only_now k.core _ c.survey-outcome.ensures.moments r schema
