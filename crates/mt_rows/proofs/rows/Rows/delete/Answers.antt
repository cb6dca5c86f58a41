use Rattle.std.proofs.Common.{Some, sym, ap, ◌∙◌}
use Rattle.mt_rows.specs.declared.rows.Row.{Row}
use Rattle.mt_rows.specs.Rows.{deleted}
use Rattle.mt_rows.specs.Rows.{value_at}
use Rattle.mt_rows.proofs.RowLemmas.{value_found, value_absent, altered-delete, unaltered}
use Rattle.mt_rows.proofs.rows.Rows.delete.Goals as goal

pub returns-in-Ok-clause-was : goal.returns-in-Ok-clause-was
returns-in-Ok-clause-was c =
    let place = rw (← c.self.view_is) at c.in-Ok.ensures in
    rw (← c.self.view_is)
    (ap (λ (x : Row). Some x.value) c.remove.ensures.value
    ∙ sym (value_found c.self.inside.list.items c.args.relation c.args.key.now c.in-Ok.place c.remove.result c.self.invariant place))

pub returns-in-Ok-clause-rows : goal.returns-in-Ok-clause-rows
returns-in-Ok-clause-rows c =
    let place = rw (← c.self.view_is) at c.in-Ok.ensures in
    λ s l. rw (← c.self.view_is)
    (ap (λ w. value_at w s l) c.remove.ensures.items
    ∙ altered-delete c.self.inside.list.items c.args.relation c.args.key.now c.in-Ok.place c.remove.result c.self.invariant place s l)

pub returns-in-Err-clause-was : goal.returns-in-Err-clause-was
returns-in-Err-clause-was c = sym (value_absent c.args.self.now c.args.relation c.args.key.now c.in-Err.field-0 c.in-Err.ensures)

pub returns-in-Err-clause-rows : goal.returns-in-Err-clause-rows
returns-in-Err-clause-rows c =
    unaltered c.args.self.now c.args.relation c.args.key.now deleted
    (sym (value_absent c.args.self.now c.args.relation c.args.key.now c.in-Err.field-0 c.in-Err.ensures))
