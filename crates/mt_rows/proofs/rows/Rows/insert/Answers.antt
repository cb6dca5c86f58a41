use Rattle.std.proofs.Common.{ℕ, List, [], sym, ap}
use Rattle.std.specs.Option.{is_none}
use Rattle.mt_rows.specs.declared.rows.Row.{Row}
use Rattle.mt_rows.specs.Rows.{inserted}
use Rattle.mt_rows.proofs.RowLemmas.{value_found, value_absent, altered-insert, ordered-insert, unaltered}
use Rattle.mt_rows.proofs.rows.Rows.insert.Goals as goal

-- any row, for the places past a list's end
abbrev the_row : Row
the_row = record { relation = 0; key = []; value = [] }

pub invariant_of-self-in-Err : goal.invariant_of-self-in-Err
invariant_of-self-in-Err c =
    let place = rw (← c.self.view_is) at c.in-Err.ensures in
    rw (c.in_ok-insert-in-Err.ensures.items, c.in_ok-key-in-Err.ensures)
    (ordered-insert c.self.inside.list.items
    (record { relation = c.args.relation; key = c.args.key.now; value = c.in_ok-value-in-Err.value }) c.in-Err.place c.self.invariant place)

pub returns-in-Ok-clause-fresh : goal.returns-in-Ok-clause-fresh
returns-in-Ok-clause-fresh c =
    let place = rw (← c.self.view_is) at c.in-Ok.ensures in
    rw (← c.self.view_is) (sym (ap (is_none {T = List ℕ})
    (value_found c.self.inside.list.items c.args.relation c.args.key.now c.in-Ok.field-0 the_row c.self.invariant place)))

pub returns-in-Ok-clause-ok : goal.returns-in-Ok-clause-ok
returns-in-Ok-clause-ok c =
    let place = rw (← c.self.view_is) at c.in-Ok.ensures in
    let there = value_found c.self.inside.list.items c.args.relation c.args.key.now c.in-Ok.field-0 the_row c.self.invariant place in
    rw (← c.self.view_is)
    (unaltered c.self.inside.list.items c.args.relation c.args.key.now (inserted c.args.value.now) (rw there))

pub returns-in_ok-insert-in-Err-clause-fresh : goal.returns-in_ok-insert-in-Err-clause-fresh
returns-in_ok-insert-in-Err-clause-fresh c =
    let none = value_absent c.args.self.now c.args.relation c.args.key.now c.in-Err.place c.in-Err.ensures in
    rw none

pub returns-in_ok-insert-in-Err-clause-ok : goal.returns-in_ok-insert-in-Err-clause-ok
returns-in_ok-insert-in-Err-clause-ok c =
    let place = rw (← c.self.view_is) at c.in-Err.ensures in
    rw (c.in_ok-insert-in-Err.ensures.items, c.in_ok-key-in-Err.ensures, c.in_ok-value-in-Err.ensures, ← c.self.view_is)
    (altered-insert c.self.inside.list.items c.args.relation c.args.key.now c.args.value.now c.in-Err.place place)
