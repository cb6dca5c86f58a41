use Rattle.std.proofs.lemmas.Grind.{common_steps}
use Rattle.std.proofs.Common.{ℕ, ap, get_or, map, subst, ◌∙◌, arith}
use Rattle.mt_model.specs.Tables.{started}
use Rattle.mt_model.specs.Views.{counters_of}
use Rattle.mt_steps.proofs.Listed.{counted, if_ok_map}
use Rattle.mt_steps.specs.Listed.{AreBounds}
use Rattle.mt_steps.proofs.listed_base.base_without_rows.Goals as goal

pub returns-clause-counts : goal.returns-clause-counts
returns-clause-counts c =
    let page = c.args.page.now in
    let bounds = c.in_ok-bounds.bounds.items in
    let are : AreBounds page (get_or page 1 0) bounds = subst (λ (n : ℕ). AreBounds page n bounds) c.sizes-outcome.ensures.counters c.in_ok-bounds.ensures in
    if_ok_map c.new.result (λ base same number lt. counted page (get_or page 1 0) bounds (counters_of base) (same ∙ ap (map started) c.as_slice.ensures.value) are number lt) c.new.ensures.counters

pub sizes-outcome-requires : goal.sizes-outcome-requires
sizes-outcome-requires c = grind (arith, common_steps)

pub returns-clause-rows : goal.returns-clause-rows
returns-clause-rows c = grind (arith, common_steps)

pub returns-clause-counters : goal.returns-clause-counters
returns-clause-counters c = grind (arith, common_steps)
