use Rattle.std.proofs.Common.{is_lt, rules}
use Rattle.std.proofs.lemmas.Fn.{always_returns_same}
use Rattle.std.proofs.lemmas.List.Sorted.{ranks_by}
use Rattle.mt_rows.specs.declared.rows.Row.{Row}
use Rattle.mt_rows.specs.Rows.{row_order}
use Rattle.mt_rows.proofs.Order.{order_total}
use Rattle.mt_rows.proofs.Sorting.{sorted_ordered}
use Rattle.mt_rows.proofs.rows.Rows.sorted.Goals as goal

pub invariant_of-result : goal.invariant_of-result
invariant_of-result c =
    sorted_ordered c.args.list.items c.sort_unstable_by.new.self.items c.sort_unstable_by.ensures.permutation c.requires.once
    (c.sort_unstable_by.ensures.sorted (λ x y. is_lt (row_order x y)) (ranks_by order_total (λ (x : Row). x))
    (always_returns_same _ _ _ (λ a r q k. search rules)))

pub returns-clause-ordered : goal.returns-clause-ordered
returns-clause-ordered c = invariant_of-result c
