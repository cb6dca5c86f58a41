use Rattle.std.proofs.Common.{rules}
use Rattle.std.proofs.lemmas.Fn.{always_returns_same}
use Rattle.mt_rows.specs.declared.rows.Row.{Row}
use Rattle.mt_rows.specs.Rows.{key_order}
use Rattle.mt_rows.proofs.RowLemmas.{search_place}
use Rattle.mt_rows.proofs.rows.Rows.place_of.Goals as goal

pub returns : goal.returns
returns c =
    let found = c.binary_search_by.ensures.position (λ (x : Row). key_order x.relation x.key c.args.relation c.args.key.now) (always_returns_same _ _ _ (λ a r q k. search rules)) in
    rw (← c.self.view_is)
    (search_place c.self.inside.list.items c.args.relation c.args.key.now c.binary_search_by.result c.self.invariant
    (rw c.deref.ensures.value at found) (rw c.deref.ensures.value at c.binary_search_by.ensures.bound))
