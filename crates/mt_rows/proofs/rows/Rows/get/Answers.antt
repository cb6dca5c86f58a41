use Rattle.std.proofs.Common.{Some, sym, ap, ◌∙◌}
use Rattle.mt_rows.specs.declared.rows.Row.{Row}
use Rattle.mt_rows.proofs.RowLemmas.{value_found, value_absent}
use Rattle.mt_rows.proofs.rows.Rows.get.Goals as goal

pub returns-in-Ok : goal.returns-in-Ok
returns-in-Ok c =
    let place = rw (← c.self.view_is) at c.in-Ok.ensures in
    rw (← c.self.view_is)
    (ap (λ (x : Row). Some x.value) c.index.ensures
    ∙ sym (value_found c.self.inside.list.items c.args.relation c.args.key.now c.in-Ok.place c.index.result.now c.self.invariant place))

pub returns-in-Err : goal.returns-in-Err
returns-in-Err c = sym (value_absent c.args.self.now c.args.relation c.args.key.now c.in-Err.field-0 c.in-Err.ensures)
