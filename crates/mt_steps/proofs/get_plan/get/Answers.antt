use mathlib.Core.Logic.{∥∥₁_elim, ∥∥₁_map}
use Rattle.std.proofs.Props.{props}
use Rattle.std.proofs.Common.{rules, inl, inr, arith, ◌≡◌, ◌∙◌, ℕ, List, Option, None, Some, refl, sym, ap}
use Rattle.mt_base.specs.declared.modes.Mode.TheVariants.{Read}
use Rattle.mt_space.specs.Kinds.{kind}
use Rattle.mt_slots.specs.Page.{Row}
use Rattle.mt_file.proofs.Filed.{record_kind}
use Rattle.mt_model.specs.declared.operations.Op.TheVariants.{Get}
use Rattle.mt_model.specs.declared.operations.Reply.TheVariants.{Found, Missing}
use Rattle.mt_model.specs.Model.{found}
use Rattle.mt_steps.proofs.Rows.{none_held}
use Rattle.mt_steps.proofs.Counted.{counters_refl, row_act, nothing_changes}
use Rattle.mt_steps.proofs.Asking.{bucket_inside, kind_inside}
use Rattle.mt_steps.proofs.Acting.{value_held}
use Rattle.mt_steps.proofs.get_plan.get.Goals as goal

value_of : (k v : List ℕ) (x : Row) {r : ℕ} → Some (record { relation = r; key = k; value = v }) ≡ Some x → v ≡ x.value
value_of k v x e = ap (λ (o : Option Row). elim o [ None ↦ v | Some y ↦ y.value ]) e

no_row : (x : Row) → None ≡ Some x → ⊥
no_row x e = cc

pub returns-in-Need-clause-plans : goal.returns-in-Need-clause-plans
returns-in-Need-clause-plans g c = record {
  lock = ∥∥₁_elim c.requires.good (hlevel props) (λ fact.
      let good = fact.1 in
      let asks = c.in-Need.ensures.need in
      (asks.missing, bucket_inside (g.V.Pages.total c.args.views.now) c.args.key.now good.0 good.2 Read c.in-Need.page Read good.3.index (asks.role good.0 good.1 good.2 good.3.index)));
  asks = λ room split. inl c.in-Need.ensures.need.role;
  mode = refl;
  made = search rules;
  quiet = search rules;
  idle = search rules;
  full = search rules;
  broken = search rules;
}

pub returns-in-Missing-clause-plans : goal.returns-in-Missing-clause-plans
returns-in-Missing-clause-plans g c = record {
  lock = search rules;
  asks = search rules;
  mode = search rules;
  made = λ relations pages agrees m rows.
      nothing_changes relations (g.V.Pages.total c.args.views.now) pages c.new.result.list.items _ _ c.new.ensures
      (row_act relations (g.V.Pages.total c.args.views.now) pages pages m (Get c.args.relation c.args.key.now) Missing (counters_refl (g.V.Pages.total c.args.views.now) pages rows.map) (λ b. refl)
      (λ b held. ap found (none_held pages m b c.args.relation c.args.key.now rows.named held (c.in-Missing.ensures.missing pages agrees m rows.index)))
      (λ b held. held) rows);
  quiet = search rules;
  idle = search rules;
  full = search rules;
  broken = search rules;
}

pub returns-in-Endless-clause-plans : goal.returns-in-Endless-clause-plans
returns-in-Endless-clause-plans g c = record {
  lock = search rules;
  asks = search rules;
  mode = search rules;
  made = search rules;
  quiet = search rules;
  idle = search rules;
  full = search rules;
  broken = ∥∥₁_elim c.requires.good (hlevel props) (λ fact.
      let good = fact.1 in c.in-Endless.ensures.endless good.0 good.1 good.2 good.3.index);
}

pub plan_read-requires-clause-good : goal.plan_read-requires-clause-good
plan_read-requires-clause-good g c = ∥∥₁_map c.requires.good (λ fact.
    let good = fact.1 in
    let named = good.3.named.names c.args.relation c.args.key.now c.in-Found.name (c.in-Found.ensures.found good.0 good.1 good.2 good.3.index) in
    (good.0, good.1, good.3.file, record_kind good.0 c.in-Found.name.page c.in-Found.name.slot _ named.1))

pub returns-in-Need-plan_read-clause-plans : goal.returns-in-Need-plan_read-clause-plans
returns-in-Need-plan_read-clause-plans g c = record {
  lock = ∥∥₁_elim c.requires.good (hlevel props) (λ fact.
      let good = fact.1 in
      let named = good.3.named.names c.args.relation c.args.key.now c.in-Found.name (c.in-Found.ensures.found good.0 good.1 good.2 good.3.index) in
      let outcome = c.in-Need-plan_read.ensures good.0 good.1 good.3.file (record_kind good.0 c.in-Found.name.page c.in-Found.name.slot _ named.1) in
      (outcome.0, kind_inside (g.V.Pages.total c.args.views.now) good.0 good.2 c.in-Need-plan_read.page 3 good.3.index (ap (λ (p : ℕ). kind good.0 p) outcome.1 ∙ record_kind good.0 c.in-Found.name.page c.in-Found.name.slot _ named.1) (omega arith)));
  asks = λ room split.
      let outcome : (g.V.Pages.at_hand c.args.views.now c.in-Need-plan_read.page ≡ None) × (c.in-Need-plan_read.page ≡ c.in-Found.name.page) = ∥∥₁_elim c.requires.good (hlevel props) (λ fact.
      let good = fact.1 in
      let named = good.3.named.names c.args.relation c.args.key.now c.in-Found.name (c.in-Found.ensures.found good.0 good.1 good.2 good.3.index) in
      c.in-Need-plan_read.ensures good.0 good.1 good.3.file (record_kind good.0 c.in-Found.name.page c.in-Found.name.slot _ named.1)) in
      inr (c.in-Found.name.slot, λ pages agrees m maps. c.in-Found.ensures.found pages agrees m maps ∙ ap (λ (p : ℕ). Some (record { page = p; slot = c.in-Found.name.slot })) (sym outcome.1), refl);
  mode = refl;
  made = search rules;
  quiet = search rules;
  idle = search rules;
  full = search rules;
  broken = search rules;
}

pub returns-in_ok-value-in-Record-clause-plans : goal.returns-in_ok-value-in-Record-clause-plans
returns-in_ok-value-in-Record-clause-plans g c = record {
  lock = search rules;
  asks = search rules;
  mode = search rules;
  made = λ relations pages agrees m rows.
      let name = c.in-Found.name in
      let is = c.in-Found.ensures.found pages agrees m rows.index in
      let named = rows.named.names c.args.relation c.args.key.now name is in
      let outcome = c.in-Record.ensures pages agrees rows.file (record_kind pages name.page name.slot _ named.1) in
      let same : named.0 ≡ c.in-Record.row.value.now = value_of _ _ _ (sym named.1 ∙ outcome) in
      nothing_changes relations (g.V.Pages.total c.args.views.now) pages c.new-in-Record.result.list.items _ _ c.new-in-Record.ensures
      (row_act relations (g.V.Pages.total c.args.views.now) pages pages m (Get c.args.relation c.args.key.now) (Found c.in_ok-value-in-Record.value) (counters_refl (g.V.Pages.total c.args.views.now) pages rows.map) (λ b. refl)
      (λ b held. ap found (value_held pages m b name c.args.relation c.args.key.now named.0 held named.1) ∙ ap Found (same ∙ sym c.in_ok-value-in-Record.ensures))
      (λ b held. held) rows);
  quiet = search rules;
  idle = search rules;
  full = search rules;
  broken = search rules;
}

pub returns-in-Nothing-clause-plans : goal.returns-in-Nothing-clause-plans
returns-in-Nothing-clause-plans g c = record {
  lock = search rules;
  asks = search rules;
  mode = search rules;
  made = search rules;
  quiet = search rules;
  idle = search rules;
  full = search rules;
  broken = ∥∥₁_elim c.requires.good (hlevel props) (λ fact.
      let good = fact.1 in
      let name = c.in-Found.name in
      let named = good.3.named.names c.args.relation c.args.key.now name (c.in-Found.ensures.found good.0 good.1 good.2 good.3.index) in
      let outcome = c.in-Nothing.ensures good.0 good.1 good.3.file (record_kind good.0 name.page name.slot _ named.1) in
      no_row _ (sym outcome ∙ named.1));
}
