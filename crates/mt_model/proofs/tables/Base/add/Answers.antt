use Rattle.std.proofs.Common.{◌≡◌, set, ◌∙◌, ap, to_z-of_z, SFits, w64}
use Rattle.mt_model.specs.Model.{added}
use Rattle.mt_model.specs.Tables.{count_at}
use Rattle.mt_model.specs.Views.{base_from}
use Rattle.mt_model.proofs.TableLemmas.{base-set}
use Rattle.mt_model.proofs.tables.Base.add.Goals as goal

pub returns-then-add-clause-base : goal.returns-then-add-clause-base
returns-then-add-clause-base c =
    let step : SFits w64 c.args.step = c.ranges.step in
    let counters : c.add.new.self ≡ set c.args.self.now.counters c.args.counter (added c.args.step (count_at c.args.self.now.counters c.args.counter)) =
    simp to_z-of_z at c.add.ensures.counters in
    ap (λ ns. base_from c.args.self.now.rows ns) counters
    ∙ base-set c.args.self.now.rows c.args.self.now.counters c.args.counter (added c.args.step) c.requires.there

pub returns-else-add-clause-base : goal.returns-else-add-clause-base
returns-else-add-clause-base c =
    let step : SFits w64 c.args.step = c.ranges.step in
    let counters : c.add.new.self ≡ set c.args.self.now.counters c.args.counter (added c.args.step (count_at c.args.self.now.counters c.args.counter)) =
    simp to_z-of_z at c.add.ensures.counters in
    ap (λ ns. base_from c.args.self.now.rows ns) counters
    ∙ base-set c.args.self.now.rows c.args.self.now.counters c.args.counter (added c.args.step) c.requires.there
