use mathlib.Core.Logic.{∥∥₁_elim, ∥∥₁_map}
use Rattle.std.proofs.Props.{props}
use Rattle.std.proofs.Common.{rules, false, ◌≡◌, ◌<◌, inl, inr, arith, ⊎_elim, ◌∙◌, ℕ, List, Option, None, Some, refl, sym, ap, subst}
use Rattle.std.proofs.lemmas.Result.{IfOk-weaker}
use Rattle.mt_base.specs.declared.numbers.RecordName.{RecordName}
use Rattle.mt_slots.specs.Page.{Row}
use Rattle.mt_file.proofs.Filed.{record_kind}
use Rattle.mt_model.specs.declared.operations.Op.TheVariants.{Update}
use Rattle.mt_model.specs.declared.operations.Reply.TheVariants.{Was}
use Rattle.mt_steps.specs.Acts.{IsMoved}
use Rattle.mt_steps.specs.PlanAnswers.{Does}
use Rattle.mt_steps.proofs.Single.{lock_some}
use Rattle.mt_steps.proofs.Answered.{answers_weaker}
use Rattle.mt_steps.specs.Plans.{HasStood}
use Rattle.mt_file.specs.File.{record_in}
use Rattle.mt_steps.proofs.Asking.{stands_in, replacement_needs, step_at_hand}
use Rattle.mt_file.specs.declared.step.Step.{Step}
use Rattle.mt_file.specs.Plans.{IfDone, IsNamed, IsReplacement}
use Rattle.mt_steps.proofs.Modest.{kept_modest, moved_modest, too_full}
use Rattle.std.specs.Prelude.{IsSome}
use Rattle.mt_steps.proofs.Rows.{row_of}
use Rattle.mt_steps.proofs.Shifting.{replacement_is, kept_act, moved_here, has_moved}
use Rattle.mt_space.specs.Changes.{PageBytes, Agrees, after}
use Rattle.mt_index.specs.Maps.{Map}
use Rattle.mt_steps.specs.Held.{AreRows}
use Rattle.mt_steps.specs.Plans.{TakesPages}
use Rattle.mt_steps.proofs.Naming.{needs_place, kept_none, none_takes, alone_takes, moved_place, moved_alone}
use Rattle.mt_steps.proofs.update_plan.update_row.Goals as goal

value_of : (k v : List ℕ) (x : Row) {r : ℕ} → Some (record { relation = r; key = k; value = v }) ≡ Some x → v ≡ x.value
value_of k v x e = ap (λ (o : Option Row). elim o [ None ↦ v | Some y ↦ y.value ]) e

no_row : (x : Row) → None ≡ Some x → ⊥
no_row x e = cc

pub plan_read-requires-clause-good : goal.plan_read-requires-clause-good
plan_read-requires-clause-good g c = ∥∥₁_map c.requires.good (λ fact.
    let good = fact.1 in
    let n = c.args.name.now in
    let named = good.3.named.names c.args.relation c.args.key.now n (c.requires.named good.0 good.1 good.2 good.3.index) in
    (good.0, good.1, good.3.file, record_kind good.0 n.page n.slot _ named.1))

pub returns-in-Need : goal.returns-in-Need
returns-in-Need g c =
    let n = c.args.name.now in
    let outcome : (relations : ℕ) (pages : PageBytes) → Agrees (g.V.Pages.at_hand c.args.views.now) pages → (m : Map) → AreRows relations (g.V.Pages.total c.args.views.now) pages m
    → ((g.V.Pages.at_hand c.args.views.now c.in-Need.page ≡ None) × (c.in-Need.page < g.V.Pages.total c.args.views.now)) × HasStood pages c.in-Need.page c.args.relation c.args.key.now = λ relations pages agrees m rows.
    let is = c.requires.named pages agrees m rows.index in
    let named = rows.named.names c.args.relation c.args.key.now n is in
    let need = c.in-Need.ensures pages agrees rows.file (record_kind pages n.page n.slot _ named.1) in
    let own = stands_in relations (g.V.Pages.total c.args.views.now) pages m n c.args.relation c.args.key.now c.in-Need.page rows is need.1 in
    ((need.0, own.0), own.1) in
    let asked = lock_some (g.V.Pages.at_hand c.args.views.now) (g.V.Pages.total c.args.views.now) c.in-Need.page (∥∥₁_map c.requires.good (λ fact. let good = fact.1 in (outcome fact.0 good.0 good.1 good.2 good.3).0)) in
    (asked.0, asked.1, λ relations pages agrees m rows so. inl (refl, (outcome relations pages agrees m rows).1))

pub returns-in-Nothing : goal.returns-in-Nothing
returns-in-Nothing g c = ∥∥₁_elim c.requires.good (hlevel props) (λ fact.
    let good = fact.1 in
    let n = c.args.name.now in
    let named = good.3.named.names c.args.relation c.args.key.now n (c.requires.named good.0 good.1 good.2 good.3.index) in
    no_row _ (sym (c.in-Nothing.ensures good.0 good.1 good.3.file (record_kind good.0 n.page n.slot _ named.1)) ∙ named.1))

pub plan_replace-requires-clause-good : goal.plan_replace-requires-clause-good
plan_replace-requires-clause-good g c = ∥∥₁_map c.requires.good (λ fact.
    let good = fact.1 in
    let named = good.3.named.names c.args.relation c.args.key.now c.args.name.now (c.requires.named good.0 good.1 good.2 good.3.index) in
    (good.0, _, good.1, good.3.file, good.4, named.1))

pub returns-in-Need-2 : goal.returns-in-Need-2
returns-in-Need-2 g c =
    let n = c.args.name.now in
    let outcome = λ (relations : ℕ) (pages : PageBytes) (agrees : Agrees (g.V.Pages.at_hand c.args.views.now) pages) (m : Map) (rows : AreRows relations (g.V.Pages.total c.args.views.now) pages m) (roomy : IsNamed c.args.room pages).
    let is = c.requires.named pages agrees m rows.index in
    let named = rows.named.names c.args.relation c.args.key.now n is in
    replacement_needs (g.V.Pages.at_hand c.args.views.now) c.args.room relations (g.V.Pages.total c.args.views.now) pages m n c.args.relation c.args.key.now named.0 c.args.value.now c.in-Need-2.page c.in_ok-page.field-0 c.in-Need-2.is rows roomy is named.1
    (c.in_ok-page.ensures.replacement pages _ agrees rows.file roomy named.1) in
    let asked = lock_some (g.V.Pages.at_hand c.args.views.now) (g.V.Pages.total c.args.views.now) c.in-Need-2.page (∥∥₁_map c.requires.good (λ fact. let good = fact.1 in let t = outcome fact.0 good.0 good.1 good.2 good.3 good.4 in (t.0, t.1))) in
    (asked.0, asked.1, λ relations pages agrees m rows so. (outcome relations pages agrees m rows so).2)

pub set_entry-requires-clause-there : goal.set_entry-requires-clause-there
set_entry-requires-clause-there g c = step_at_hand (g.V.Pages.at_hand c.args.views.now) c.in_ok-page.field-0 c.in-Done.plan c.in-Done.is c.in_ok-page.ensures.there

pub set_entry-requires-clause-good : goal.set_entry-requires-clause-good
set_entry-requires-clause-good g c = ∥∥₁_map c.requires.good (λ fact. (
  fact.0,
  c.args.room,
  c.args.name.now,
  c.args.value.now,
  fact.1,
  λ pages agrees m rows roomy.
      let n = c.args.name.now in
      let old = c.in_ok-old-in-Record.old in
      let is = c.requires.named pages agrees m rows.index in
      let named = rows.named.names c.args.relation c.args.key.now n is in
      let outcome = c.in-Record.ensures pages agrees rows.file (record_kind pages n.page n.slot _ named.1) in
      let stood = named.1 ∙ ap (λ (v : List ℕ). row_of c.args.relation c.args.key.now (Some v)) (value_of _ _ _ (sym named.1 ∙ outcome) ∙ sym c.in_ok-old-in-Record.ensures) in
      let r : Row = record { relation = c.args.relation; key = c.args.key.now; value = old } in (
        is,
        has_moved (g.V.Pages.total c.args.views.now) pages c.in-Done.plan n r c.args.value.now c.if-is_name.ensures
            (replacement_is (g.V.Pages.at_hand c.args.views.now) c.args.room fact.0 (g.V.Pages.total c.args.views.now) pages m n r c.args.value.now c.in_ok-page.field-0 c.in-Done.plan c.in-Done.is rows roomy
            (c.in_ok-page.ensures.replacement pages r agrees rows.file roomy stood) (c.in_ok-page.ensures.short pages r agrees rows.file roomy stood) stood),
      ),
))

pub returns-in-Full : goal.returns-in-Full
returns-in-Full g c = λ relations pages agrees m rows roomy.
    let n = c.args.name.now in
    let total = g.V.Pages.total c.args.views.now in
    let named = rows.named.names c.args.relation c.args.key.now n (c.requires.named pages agrees m rows.index) in
    let r : Row = record { relation = c.args.relation; key = c.args.key.now; value = named.0 } in
    let outcome = subst (λ (x : Step). IsReplacement (g.V.Pages.at_hand c.args.views.now) c.args.room total pages n.page n.slot r (record r { value = c.args.value.now }) x) c.in-Full.is (c.in_ok-page.ensures.replacement pages r agrees rows.file roomy named.1) in
    ⊎_elim (λ none. inl (omega (arith, none))) (λ tight. inr tight) (too_full c.args.room total _ pages outcome.1)

pub set_entry-requires-clause-seen : goal.set_entry-requires-clause-seen
set_entry-requires-clause-seen g c =
    let at_hand = g.V.Pages.at_hand c.args.views.now in
    (subst (λ (x : Step). IfDone x (λ plan. IsSome (at_hand c.args.name.now.page) × IsSome (at_hand plan.name.page))) c.in-Done.is c.in_ok-page.ensures.seen).1

pub returns-then-is_name : goal.returns-then-is_name
returns-then-is_name g c = record {
  there = step_at_hand (g.V.Pages.at_hand c.args.views.now) c.in_ok-page.field-0 c.in-Done.plan c.in-Done.is c.in_ok-page.ensures.there;
  few = search rules;
  idle = search rules;
  does = λ relations pages agrees m rows so.
      let n = c.args.name.now in
      let at_hand = g.V.Pages.at_hand c.args.views.now in
      let total = g.V.Pages.total c.args.views.now in
      let old = c.in_ok-old-in-Record.old in
      let is = c.requires.named pages agrees m rows.index in
      let named = rows.named.names c.args.relation c.args.key.now n is in
      let outcome = c.in-Record.ensures pages agrees rows.file (record_kind pages n.page n.slot _ named.1) in
      let stood = named.1 ∙ ap (λ (v : List ℕ). row_of c.args.relation c.args.key.now (Some v)) (value_of _ _ _ (sym named.1 ∙ outcome) ∙ sym c.in_ok-old-in-Record.ensures) in
      let r : Row = record { relation = c.args.relation; key = c.args.key.now; value = old } in
      let w : Row = record { relation = c.args.relation; key = c.args.key.now; value = c.args.value.now } in
      let changes = c.in-Done.plan.changes.list.items in
      let seen = subst (λ (x : Step). IfDone x (λ plan. IsSome (at_hand n.page) × IsSome (at_hand plan.name.page))) c.in-Done.is c.in_ok-page.ensures.seen in
      ⊎_elim {C = Does at_hand relations total 1 false (Update c.args.relation c.args.key.now c.args.value.now) (TakesPages c.args.room (Update c.args.relation c.args.key.now c.args.value.now)) pages changes (Was old)}
      (λ kept. record {
        act = kept_act relations total pages m changes n c.args.relation c.args.key.now old c.args.value.now (Was old) rows is so.0 kept.1 refl;
        short = kept.1.short;
        modest = kept_modest at_hand relations total false pages m changes n _ _ rows kept.1;
        keeps = none_takes c.args.room _ pages (after changes pages) (kept_none pages changes n c.args.relation c.args.key.now old c.args.value.now kept.1);
      })
      (λ moved.
      let here : IsMoved total pages changes n n r w = subst (λ (to : RecordName). IsMoved total pages changes n to r w) c.if-is_name.ensures moved in record {
        act = moved_here relations total pages m changes n c.args.relation c.args.key.now old c.args.value.now (Was old) rows is so.0 here refl;
        short = here.short;
        modest = moved_modest at_hand relations total false pages m changes n c.in-Done.plan.name _ _ rows seen.0 seen.1 moved;
        keeps = alone_takes c.args.room (Update c.args.relation c.args.key.now c.args.value.now) c.in-Done.plan.name.page c.args.relation c.args.key.now pages (after changes pages) so.1
            (moved_place at_hand c.args.room relations total pages m n c.args.relation c.args.key.now old c.args.value.now c.in_ok-page.field-0 c.in-Done.plan c.in-Done.is rows is stood (c.in_ok-page.ensures.replacement pages r agrees rows.file so.1 stood))
            (moved_alone total pages changes n c.in-Done.plan.name _ _ _ moved);
      })
      (replacement_is at_hand c.args.room relations total pages m n r c.args.value.now c.in_ok-page.field-0 c.in-Done.plan c.in-Done.is rows so.1
      (c.in_ok-page.ensures.replacement pages r agrees rows.file so.1 stood) (c.in_ok-page.ensures.short pages r agrees rows.file so.1 stood) stood);
}

pub returns : goal.returns
returns g c =
    let n = c.args.name.now in
    let at_hand = g.V.Pages.at_hand c.args.views.now in
    let total = g.V.Pages.total c.args.views.now in
    let seen = subst (λ (x : Step). IfDone x (λ plan. IsSome (at_hand n.page) × IsSome (at_hand plan.name.page))) c.in-Done.is c.in_ok-page.ensures.seen in
    let moves : (relations : ℕ) (pages : PageBytes) → Agrees at_hand pages → (m : Map) → AreRows relations total pages m → IsNamed c.args.room pages
    → (record_in pages n.page n.slot ≡ Some (record { relation = c.args.relation; key = c.args.key.now; value = c.in_ok-old-in-Record.old })) × IsMoved total pages c.in-Done.plan.changes.list.items n c.in-Done.plan.name (record { relation = c.args.relation; key = c.args.key.now; value = c.in_ok-old-in-Record.old }) (record { relation = c.args.relation; key = c.args.key.now; value = c.args.value.now }) = λ relations pages agrees m rows roomy.
    let old = c.in_ok-old-in-Record.old in
    let is = c.requires.named pages agrees m rows.index in
    let named = rows.named.names c.args.relation c.args.key.now n is in
    let outcome = c.in-Record.ensures pages agrees rows.file (record_kind pages n.page n.slot _ named.1) in
    let stood = named.1 ∙ ap (λ (v : List ℕ). row_of c.args.relation c.args.key.now (Some v)) (value_of _ _ _ (sym named.1 ∙ outcome) ∙ sym c.in_ok-old-in-Record.ensures) in
    let r : Row = record { relation = c.args.relation; key = c.args.key.now; value = old } in (
      stood,
      has_moved total pages c.in-Done.plan n r c.args.value.now c.if-is_name.ensures
          (replacement_is at_hand c.args.room relations total pages m n r c.args.value.now c.in_ok-page.field-0 c.in-Done.plan c.in-Done.is rows roomy
          (c.in_ok-page.ensures.replacement pages r agrees rows.file roomy stood) (c.in_ok-page.ensures.short pages r agrees rows.file roomy stood) stood),
    ) in
    IfOk-weaker c.set_entry.result _ _ (answers_weaker at_hand total _ _ _ _ ⊥ _ (λ p mode asks relations pages agrees m rows roomy.
    let is = c.requires.named pages agrees m rows.index in
    let moved = moves relations pages agrees m rows roomy in
    inr (
      needs_place pages m n c.args.relation c.args.key.now c.in_ok-old-in-Record.old c.args.value.now rows.named is moved.0 moved.1.outgrown,
      inr (asks relations pages agrees m rows moved.1),
    )) (λ changes reply done. record {
      there = done.there;
      few = done.few;
      idle = done.idle;
      does = λ relations pages agrees m rows so.
          let old = c.in_ok-old-in-Record.old in
          let is = c.requires.named pages agrees m rows.index in
          let moved = moves relations pages agrees m rows so.1 in
          let r : Row = record { relation = c.args.relation; key = c.args.key.now; value = old } in
          let d = done.does relations pages agrees m rows (so.0, is, moved.1) in record {
            act = d.act;
            short = d.short;
            modest = d.modest;
            keeps = alone_takes c.args.room (Update c.args.relation c.args.key.now c.args.value.now) c.in-Done.plan.name.page c.args.relation c.args.key.now pages (after changes pages) so.1
                (moved_place at_hand c.args.room relations total pages m n c.args.relation c.args.key.now old c.args.value.now c.in_ok-page.field-0 c.in-Done.plan c.in-Done.is rows is moved.0 (c.in_ok-page.ensures.replacement pages r agrees rows.file so.1 moved.0))
                d.keeps;
          };
    }) (λ no. absurd no)) (c.set_entry.ensures n c.args.value.now seen.0)
