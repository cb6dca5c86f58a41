use mathlib.Core.Logic.{∥∥₁_elim, ∥∥₁_map}
use Rattle.std.proofs.Props.{props}
use Rattle.std.proofs.Common.{◌<◌, ◌≡◌, ◌∙◌, inl, inr, refl, ℕ, List, Option, None, Some, sym, ap}
use Rattle.std.proofs.lemmas.Result.{IfOk-weaker}
use Rattle.mt_slots.specs.Page.{Row}
use Rattle.mt_space.specs.Changes.{PageBytes, Agrees}
use Rattle.mt_index.specs.Maps.{Map}
use Rattle.mt_steps.specs.Held.{AreRows}
use Rattle.mt_file.proofs.Filed.{record_kind}
use Rattle.mt_steps.proofs.Single.{lock_some}
use Rattle.mt_steps.proofs.Answered.{answers_weaker}
use Rattle.mt_steps.specs.Plans.{HasStood}
use Rattle.mt_steps.specs.PlanAnswers.{HasTaken}
use Rattle.mt_steps.proofs.Asking.{stands_in, removal_needs, step_at_hand}
use Rattle.mt_steps.proofs.Rows.{row_of}
use Rattle.mt_steps.proofs.Leaving.{removal_fits, removal_takes}
use Rattle.mt_steps.proofs.delete_plan.delete_row.Goals as goal

value_of : (k v : List ℕ) (x : Row) {r : ℕ} → Some (record { relation = r; key = k; value = v }) ≡ Some x → v ≡ x.value
value_of k v x e = ap (λ (o : Option Row). elim o [ None ↦ v | Some y ↦ y.value ]) e

no_row : (x : Row) → None ≡ Some x → ⊥
no_row x e = cc

pub plan_read-requires-clause-good : goal.plan_read-requires-clause-good
plan_read-requires-clause-good g c = ∥∥₁_map c.requires.good (λ fact.
    let good = fact.1 in
    let n = c.args.name.now in
    let named = good.3.named.names c.args.relation c.args.key.now n (c.requires.named good.0 good.1 good.2 good.3.index) in
    (good.0, good.1, good.3.file, record_kind good.0 n.page n.slot _ named.1))

pub returns-in-Need : goal.returns-in-Need
returns-in-Need g c =
    let n = c.args.name.now in
    let outcome : (relations : ℕ) (pages : PageBytes) → Agrees (g.V.Pages.at_hand c.args.views.now) pages → (m : Map) → AreRows relations (g.V.Pages.total c.args.views.now) pages m
    → ((g.V.Pages.at_hand c.args.views.now c.in-Need.page ≡ None) × (c.in-Need.page < g.V.Pages.total c.args.views.now)) × HasStood pages c.in-Need.page c.args.relation c.args.key.now = λ relations pages agrees m rows.
    let is = c.requires.named pages agrees m rows.index in
    let named = rows.named.names c.args.relation c.args.key.now n is in
    let need = c.in-Need.ensures pages agrees rows.file (record_kind pages n.page n.slot _ named.1) in
    let own = stands_in relations (g.V.Pages.total c.args.views.now) pages m n c.args.relation c.args.key.now c.in-Need.page rows is need.1 in
    ((need.0, own.0), own.1) in
    let asked = lock_some (g.V.Pages.at_hand c.args.views.now) (g.V.Pages.total c.args.views.now) c.in-Need.page (∥∥₁_map c.requires.good (λ fact. let good = fact.1 in (outcome fact.0 good.0 good.1 good.2 good.3).0)) in
    (asked.0, asked.1, λ relations pages agrees m rows so. inr (refl, inl (outcome relations pages agrees m rows).1))

pub returns-in-Nothing : goal.returns-in-Nothing
returns-in-Nothing g c = ∥∥₁_elim c.requires.good (hlevel props) (λ fact.
    let good = fact.1 in
    let n = c.args.name.now in
    let named = good.3.named.names c.args.relation c.args.key.now n (c.requires.named good.0 good.1 good.2 good.3.index) in
    no_row _ (sym (c.in-Nothing.ensures good.0 good.1 good.3.file (record_kind good.0 n.page n.slot _ named.1)) ∙ named.1))

pub plan_remove-requires-clause-good : goal.plan_remove-requires-clause-good
plan_remove-requires-clause-good g c = ∥∥₁_map c.requires.good (λ fact.
    let good = fact.1 in
    let named = good.3.named.names c.args.relation c.args.key.now c.args.name.now (c.requires.named good.0 good.1 good.2 good.3.index) in
    (good.0, _, good.1, good.3.file, named.1))

pub returns-in-Need-2 : goal.returns-in-Need-2
returns-in-Need-2 g c =
    let n = c.args.name.now in
    let outcome = λ (relations : ℕ) (pages : PageBytes) (agrees : Agrees (g.V.Pages.at_hand c.args.views.now) pages) (m : Map) (rows : AreRows relations (g.V.Pages.total c.args.views.now) pages m).
    let is = c.requires.named pages agrees m rows.index in
    let named = rows.named.names c.args.relation c.args.key.now n is in
    removal_needs (g.V.Pages.at_hand c.args.views.now) relations (g.V.Pages.total c.args.views.now) pages m n c.args.relation c.args.key.now named.0 c.in-Need-2.page c.in_ok-page.field-0 c.in-Need-2.is rows is named.1
    (c.in_ok-page.ensures.removal pages _ agrees rows.file named.1) in
    let asked = lock_some (g.V.Pages.at_hand c.args.views.now) (g.V.Pages.total c.args.views.now) c.in-Need-2.page (∥∥₁_map c.requires.good (λ fact. let good = fact.1 in let t = outcome fact.0 good.0 good.1 good.2 good.3 in (t.0, t.1))) in
    (asked.0, asked.1, λ relations pages agrees m rows so. (outcome relations pages agrees m rows).2)

pub drop_entry-requires-clause-there : goal.drop_entry-requires-clause-there
drop_entry-requires-clause-there g c = step_at_hand (g.V.Pages.at_hand c.args.views.now) c.in_ok-page.field-0 c.in-Done.plan c.in-Done.is c.in_ok-page.ensures.there

pub returns-in-Full : goal.returns-in-Full
returns-in-Full g c = ∥∥₁_elim c.requires.good (hlevel props) (λ fact.
    let good = fact.1 in
    let n = c.args.name.now in
    let named = good.3.named.names c.args.relation c.args.key.now n (c.requires.named good.0 good.1 good.2 good.3.index) in
    removal_fits (g.V.Pages.at_hand c.args.views.now) good.0 n.page n.slot c.in_ok-page.field-0 c.in-Full.is (c.in_ok-page.ensures.removal good.0 _ good.1 good.3.file named.1))

pub drop_entry-requires-clause-good : goal.drop_entry-requires-clause-good
drop_entry-requires-clause-good g c = ∥∥₁_map c.requires.good (λ fact. (
  fact.0,
  fact.1,
  λ pages agrees m rows.
      let n = c.args.name.now in
      let is = c.requires.named pages agrees m rows.index in
      let named = rows.named.names c.args.relation c.args.key.now n is in
      let outcome = c.in-Record.ensures pages agrees rows.file (record_kind pages n.page n.slot _ named.1) in
      let stood = named.1 ∙ ap (λ (v : List ℕ). row_of c.args.relation c.args.key.now (Some v)) (value_of _ _ _ (sym named.1 ∙ outcome) ∙ sym c.in_ok-old-in-Record.ensures) in
      (is, removal_takes (g.V.Pages.at_hand c.args.views.now) pages n _ c.in_ok-page.field-0 c.in-Done.plan c.in-Done.is (c.in_ok-page.ensures.removal pages _ agrees rows.file named.1) (c.in_ok-page.ensures.short pages _ agrees rows.file named.1) stood),
))

pub returns : goal.returns
returns g c =
    let at_hand = g.V.Pages.at_hand c.args.views.now in
    let total = g.V.Pages.total c.args.views.now in
    let n = c.args.name.now in
    let taken : (relations : ℕ) (pages : PageBytes) → Agrees at_hand pages → (m : Map) → AreRows relations total pages m → HasTaken c.in-Done.plan.changes.list.items n (record { relation = c.args.relation; key = c.args.key.now; value = c.in_ok-old-in-Record.old }) relations pages m = λ relations pages agrees m rows.
    let is = c.requires.named pages agrees m rows.index in
    let named = rows.named.names c.args.relation c.args.key.now n is in
    let outcome = c.in-Record.ensures pages agrees rows.file (record_kind pages n.page n.slot _ named.1) in
    let stood = named.1 ∙ ap (λ (v : List ℕ). row_of c.args.relation c.args.key.now (Some v)) (value_of _ _ _ (sym named.1 ∙ outcome) ∙ sym c.in_ok-old-in-Record.ensures) in (
      is,
      removal_takes at_hand pages n _ c.in_ok-page.field-0 c.in-Done.plan c.in-Done.is (c.in_ok-page.ensures.removal pages _ agrees rows.file named.1) (c.in_ok-page.ensures.short pages _ agrees rows.file named.1) stood,
    ) in
    IfOk-weaker c.drop_entry.result _ _ (answers_weaker at_hand total _ _ _ _ ⊥ ⊥ (λ p mode asks relations pages agrees m rows so. inl (asks relations pages agrees m rows (taken relations pages agrees m rows))) (λ changes reply done. record {
      there = done.there;
      few = done.few;
      idle = done.idle;
      does = λ relations pages agrees m rows so. done.does relations pages agrees m rows (taken relations pages agrees m rows);
    }) (λ no. no)) c.drop_entry.ensures
