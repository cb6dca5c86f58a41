use mathlib.Core.Logic.{∥∥₁_elim, ∥∥₁_map}
use Rattle.std.proofs.Props.{props}
use Rattle.std.proofs.Common.{rules, ◌≡◌, inr, ℕ, ◌+◌, ◌<◌, ◌++◌, ◌∷◌, [], None, Some, length, get_or, length-append, refl, sym, ap, ◌∙◌, subst, arith}
use Rattle.std.proofs.lemmas.List.{get_or_default}
use Rattle.std.specs.Prelude.{Contains}
use Rattle.mt_base.specs.declared.numbers.RecordName.{RecordName}
use Rattle.mt_rows.specs.declared.rows.Row as base
use Rattle.mt_slots.specs.Page.{Row}
use Rattle.mt_space.specs.Kinds.{kind}
use Rattle.mt_file.specs.File.{record_in}
use Rattle.mt_file.proofs.Filed.{record_kind}
use Rattle.mt_model.specs.declared.operations.Op.TheVariants.{Scan}
use Rattle.mt_model.specs.declared.operations.Reply.TheVariants.{Rows}
use Rattle.mt_steps.proofs.Asking.{kind_inside}
use Rattle.mt_steps.proofs.Counted.{counters_refl, row_act, nothing_changes}
use Rattle.mt_steps.proofs.ScanRows.{row_in, row_is, some_row, AreUnder, under_push, stands, keys_once, rows_are}
use Rattle.mt_steps.proofs.scan_plan.rows_named.Goals as goal

pub plan_read-requires-clause-good : goal.plan_read-requires-clause-good
plan_read-requires-clause-good g c = ∥∥₁_map c.requires.good (λ fact.
    let good = fact.1 in
    let stood = stands c.args.relation good.0 good.2 good.3.named c.args.names.now (c.requires.named good.0 good.1 good.2 good.3.index) c.loop-name.name-index c.name-item.result (omega arith) in
    let at = subst (λ (n : RecordName). record_in good.0 n.page n.slot ≡ Some (record { relation = c.args.relation; key = stood.0; value = stood.1 })) (sym c.name-item.is) stood.2 in
    (good.0, good.1, good.3.file, record_kind good.0 c.name-item.result.page c.name-item.result.slot _ at))

pub returns-in-Need : goal.returns-in-Need
returns-in-Need g c =
    let name = c.name-item.result in
    let outcome : (g.V.Pages.at_hand c.args.views.now c.in-Need.page ≡ None) × (c.in-Need.page ≡ name.page) × (name.page < g.V.Pages.total c.args.views.now) =
    ∥∥₁_elim c.requires.good (hlevel props) (λ fact.
    let good = fact.1 in
    let stood = stands c.args.relation good.0 good.2 good.3.named c.args.names.now (c.requires.named good.0 good.1 good.2 good.3.index) c.loop-name.name-index name (omega arith) in
    let at = subst (λ (n : RecordName). record_in good.0 n.page n.slot ≡ Some (record { relation = c.args.relation; key = stood.0; value = stood.1 })) (sym c.name-item.is) stood.2 in
    let of_records : kind good.0 name.page ≡ 3 = record_kind good.0 name.page name.slot _ at in
    let needs = c.in-Need.ensures good.0 good.1 good.3.file of_records in
    (needs.0, needs.1, kind_inside (g.V.Pages.total c.args.views.now) good.0 good.2 name.page 3 good.3.index of_records (omega arith))) in
    record {
      lock = (outcome.0, subst (λ (q : ℕ). q < g.V.Pages.total c.args.views.now) (sym outcome.1) outcome.2);
      asks = λ room split. inr (
        (
          c.args.names.now,
          c.requires.named,
          (
            name.slot,
            subst (λ (q : ℕ). Contains c.args.names.now (record { page = q; slot = name.slot })) (sym outcome.1)
                (c.loop-name.name-index, omega arith, sym c.name-item.is),
          ),
        ),
        refl,
      );
      mode = refl;
      made = search rules;
      quiet = search rules;
      idle = search rules;
      full = search rules;
      broken = search rules;
    }

pub returns-in-Nothing : goal.returns-in-Nothing
returns-in-Nothing g c = record {
  lock = search rules;
  asks = search rules;
  mode = search rules;
  made = search rules;
  quiet = search rules;
  idle = search rules;
  full = search rules;
  broken = ∥∥₁_elim c.requires.good (hlevel props) (λ fact.
      let good = fact.1 in
      let stood = stands c.args.relation good.0 good.2 good.3.named c.args.names.now (c.requires.named good.0 good.1 good.2 good.3.index) c.loop-name.name-index c.name-item.result (omega arith) in
      let at = subst (λ (n : RecordName). record_in good.0 n.page n.slot ≡ Some (record { relation = c.args.relation; key = stood.0; value = stood.1 })) (sym c.name-item.is) stood.2 in
      let none = c.in-Nothing.ensures good.0 good.1 good.3.file (record_kind good.0 c.name-item.result.page c.name-item.result.slot _ at) in
      let wrong = sym none ∙ at in cc);
}

pub sorted-requires : goal.sorted-requires
sorted-requires g c = record {
  once = ∥∥₁_elim c.requires.good (hlevel props) (λ fact.
      let good = fact.1 in
      let all : length c.loop-name.rows.items ≡ length c.args.names.now = omega (arith, c.loop-name.invariant.many) in
      keys_once c.args.relation good.0 good.2 good.3.named c.args.names.now c.loop-name.rows.items all
      (c.loop-name.invariant.under fact.0 good.0 good.1 good.2 good.3) (record { page = 0; slot = 0 }) (c.requires.once good.0 good.1 good.2 good.3.index));
}

pub returns : goal.returns
returns g c = record {
  lock = search rules;
  asks = search rules;
  mode = search rules;
  made = λ relations pages agrees m rows.
      let all : length c.loop-name.rows.items ≡ length c.args.names.now = omega (arith, c.loop-name.invariant.many) in
      nothing_changes relations (g.V.Pages.total c.args.views.now) pages c.new.result.list.items _ _ c.new.ensures
      (row_act relations (g.V.Pages.total c.args.views.now) pages pages m (Scan c.args.relation) (Rows c.sorted.result) (counters_refl (g.V.Pages.total c.args.views.now) pages rows.map) (λ b. refl)
      (λ b held. ap Rows (rows_are c.args.relation pages m rows.named c.args.names.now c.loop-name.rows.items all (c.loop-name.invariant.under relations pages agrees m rows)
      (c.requires.named pages agrees m rows.index) b held c.sorted.result c.sorted.ensures.ordered c.sorted.ensures.same))
      (λ b held. held) rows);
  quiet = search rules;
  idle = search rules;
  full = search rules;
  broken = search rules;
}

pub loop-name-preserved : goal.loop-name-preserved
loop-name-preserved g c =
    let name = c.name-item.result in
    let x : base.Row = record { relation = c.args.relation; key = c.in_ok-key-in-Record.key; value = c.in_ok-value-in-Record.value } in
    let items : c.push.new.self.items ≡ c.loop-name.rows.items ++ x ∷ [] = c.in_ok-push-in-Record.ensures.items in
    record {
      many = ap length items ∙ (length-append c.loop-name.rows.items (x ∷ []) ∙ ap (λ n. n + 1) c.loop-name.invariant.many);
      under = λ relations pages agrees m rows.
          let stood = stands c.args.relation pages m rows.named c.args.names.now (c.requires.named pages agrees m rows.index) c.loop-name.name-index name (omega arith) in
          let at = subst (λ (n : RecordName). record_in pages n.page n.slot ≡ Some (record { relation = c.args.relation; key = stood.0; value = stood.1 })) (sym c.name-item.is) stood.2 in
          let outcome = c.in-Record.ensures pages agrees rows.file (record_kind pages name.page name.slot _ at) in
          let here : record_in pages name.page name.slot ≡ row_in x =
          outcome ∙ row_is c.in-Record.record.relation c.args.relation c.in-Record.record.key.now c.in_ok-key-in-Record.key c.in-Record.record.value.now c.in_ok-value-in-Record.value
          (ap (λ (y : Row). y.relation) (some_row (sym outcome ∙ at))) (sym c.in_ok-key-in-Record.ensures) (sym c.in_ok-value-in-Record.ensures) in
          subst (AreUnder pages c.args.names.now) (sym items)
          (under_push pages c.args.names.now c.loop-name.rows.items x (c.loop-name.invariant.under relations pages agrees m rows)
          (λ d. subst (λ (n : RecordName). record_in pages n.page n.slot ≡ row_in x)
          (c.name-item.is ∙ (ap (λ i. get_or c.args.names.now i name) (sym c.loop-name.invariant.many) ∙ get_or_default c.args.names.now (length c.loop-name.rows.items) name d (omega (arith, c.loop-name.invariant.many)))) here));
    }
