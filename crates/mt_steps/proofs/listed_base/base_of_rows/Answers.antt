use Rattle.std.proofs.Common.{List, ap, ◌∙◌}
use Rattle.mt_rows.specs.Rows.{value_at}
use Rattle.mt_rows.specs.declared.rows.Row.{Row}
use Rattle.mt_steps.proofs.Listed.{all_listed}
use Rattle.mt_steps.proofs.listed_base.base_of_rows.Goals as goal

pub returns-clause-rows : goal.returns-clause-rows
returns-clause-rows c = λ pages total held inside holds listed r k.
    let sorted = c.sorted-rows.result in
    ap (λ (xs : List Row). value_at xs r k) c.with_rows.ensures.rows ∙ all_listed pages total c.args.rows.items sorted held inside holds listed c.sorted-rows.ensures.same c.sorted-rows.ensures.ordered r k
