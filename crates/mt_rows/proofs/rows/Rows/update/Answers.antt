use Rattle.std.proofs.Common.{Some, sym, ap, ◌∙◌}
use Rattle.mt_rows.specs.declared.rows.Row.{Row}
use Rattle.mt_rows.specs.Rows.{updated}
use Rattle.mt_rows.proofs.RowLemmas.{value_found, value_absent, altered-update, unaltered}
use Rattle.mt_rows.proofs.rows.Rows.update.Goals as goal

pub returns-in_ok-value-in-Ok-clause-was : goal.returns-in_ok-value-in-Ok-clause-was
returns-in_ok-value-in-Ok-clause-was c =
    let place = rw (← c.self.view_is) at c.in-Ok.ensures in
    rw (← c.self.view_is)
    (ap Some c.replace.ensures.value
    ∙ (ap (λ (x : Row). Some x.value) c.index_mut-row.ensures.value
    ∙ sym (value_found c.self.inside.list.items c.args.relation c.args.key.now c.in-Ok.place c.index_mut-row.result.now c.self.invariant place)))

pub returns-in_ok-value-in-Ok-clause-ok : goal.returns-in_ok-value-in-Ok-clause-ok
returns-in_ok-value-in-Ok-clause-ok c =
    let place = rw (← c.self.view_is) at c.in-Ok.ensures in
    rw (c.replace.ensures.after, c.in_ok-value-in-Ok.ensures, ← c.self.view_is)
    (altered-update c.self.inside.list.items c.args.relation c.args.key.now c.args.value.now c.in-Ok.place c.index_mut-row.result.now
    c.index_mut-row.ensures.value c.self.invariant place)

pub returns-in-Err-clause-was : goal.returns-in-Err-clause-was
returns-in-Err-clause-was c = sym (value_absent c.args.self.now c.args.relation c.args.key.now c.in-Err.field-0 c.in-Err.ensures)

pub returns-in-Err-clause-ok : goal.returns-in-Err-clause-ok
returns-in-Err-clause-ok c =
    let none = value_absent c.args.self.now c.args.relation c.args.key.now c.in-Err.field-0 c.in-Err.ensures in
    unaltered c.args.self.now c.args.relation c.args.key.now (updated c.args.value.now) (rw none)
