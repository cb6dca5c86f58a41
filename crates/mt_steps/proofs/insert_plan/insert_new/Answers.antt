use mathlib.Core.Logic.{∥∥₁_map}
use Rattle.std.proofs.Common.{ℕ, [], inl, inr, ⊎_elim, subst, arith, refl}
use Rattle.std.proofs.lemmas.Result.{IfOk-weaker}
use Rattle.mt_slots.specs.Page.{Row}
use Rattle.mt_model.specs.declared.operations.Op.TheVariants.{Insert}
use Rattle.mt_file.specs.declared.step.Step.{Step}
use Rattle.mt_file.specs.Plans.{IsPut, IsNamed}
use Rattle.mt_steps.specs.Held.{AreRows}
use Rattle.mt_index.specs.Maps.{Map}
use Rattle.mt_space.specs.Changes.{PageBytes, Agrees, after}
use Rattle.mt_steps.proofs.Single.{lock_some}
use Rattle.mt_steps.proofs.Answered.{answers_weaker}
use Rattle.mt_steps.proofs.Asking.{put_needs, step_at_hand}
use Rattle.mt_steps.proofs.Entering.{placed_is}
use Rattle.mt_steps.proofs.Modest.{insert_needs, too_full}
use Rattle.mt_steps.proofs.Naming.{alone_takes, put_place}
use Rattle.mt_steps.proofs.insert_plan.insert_new.Goals as goal

pub plan_put-requires-clause-good : goal.plan_put-requires-clause-good
plan_put-requires-clause-good g c = ∥∥₁_map c.requires.good (λ fact. let good = fact.1 in (good.0, good.1, good.3.file, good.4))

pub add_entry-requires-clause-good : goal.add_entry-requires-clause-good
add_entry-requires-clause-good g c = ∥∥₁_map c.requires.good (λ fact.
    let good = fact.1 in (
      fact.0,
      c.args.room,
      c.args.value.now,
      good,
      λ pages agrees m rows named.
          placed_is (g.V.Pages.at_hand c.args.views.now) c.args.room fact.0 (g.V.Pages.total c.args.views.now) pages m _ c.in_ok-page.field-0 c.in-Done.plan c.in-Done.is rows named
          (c.in_ok-page.ensures.put pages agrees rows.file named) (c.in_ok-page.ensures.short pages agrees rows.file named),
    ))

pub returns-in-Need : goal.returns-in-Need
returns-in-Need g c =
    let at_hand = g.V.Pages.at_hand c.args.views.now in
    let total = g.V.Pages.total c.args.views.now in
    let outcome = λ (relations : ℕ) (pages : PageBytes) (agrees : Agrees at_hand pages) (m : Map) (rows : AreRows relations total pages m) (named : IsNamed c.args.room pages).
    put_needs at_hand c.args.room total pages m _ c.in-Need.page c.in_ok-page.field-0 c.in-Need.is rows.index named (c.in_ok-page.ensures.put pages agrees rows.file named) in
    let asked = lock_some at_hand total c.in-Need.page (∥∥₁_map c.requires.good (λ fact. let good = fact.1 in let t = outcome fact.0 good.0 good.1 good.2 good.3 good.4 in (t.0, t.1))) in
    (asked.0, asked.1, λ relations pages agrees m rows named. inl (refl, (outcome relations pages agrees m rows named).2))

pub add_entry-requires-clause-there : goal.add_entry-requires-clause-there
add_entry-requires-clause-there g c = step_at_hand (g.V.Pages.at_hand c.args.views.now) c.in_ok-page.field-0 c.in-Done.plan c.in-Done.is c.in_ok-page.ensures.there

pub returns-in-Full : goal.returns-in-Full
returns-in-Full g c = λ relations pages agrees m rows named.
    let total = g.V.Pages.total c.args.views.now in
    let row : Row = record { relation = c.args.relation; key = c.args.key.now; value = c.args.value.now } in
    let outcome = subst (λ (x : Step). IsPut (g.V.Pages.at_hand c.args.views.now) c.args.room total [] pages row x) c.in-Full.is (c.in_ok-page.ensures.put pages agrees rows.file named) in
    ⊎_elim (λ none. let needs = insert_needs c.args.split in inl (omega (arith, none, needs))) (λ tight. inr tight) (too_full c.args.room total _ pages outcome)

pub returns : goal.returns
returns g c =
    let at_hand = g.V.Pages.at_hand c.args.views.now in
    let total = g.V.Pages.total c.args.views.now in
    let put = λ (relations : ℕ) (pages : PageBytes) (agrees : Agrees at_hand pages) (m : Map) (rows : AreRows relations total pages m) (named : IsNamed c.args.room pages).
    placed_is at_hand c.args.room relations total pages m _ c.in_ok-page.field-0 c.in-Done.plan c.in-Done.is rows named
    (c.in_ok-page.ensures.put pages agrees rows.file named) (c.in_ok-page.ensures.short pages agrees rows.file named) in
    IfOk-weaker c.add_entry.result _ _ (answers_weaker at_hand total _ _ _ _ _ _ (λ p mode asks relations pages agrees m rows named.
    let outcome = subst (λ (x : Step). IsPut at_hand c.args.room total [] pages (record { relation = c.args.relation; key = c.args.key.now; value = c.args.value.now }) x) c.in-Done.is (c.in_ok-page.ensures.put pages agrees rows.file named) in
    inr (after c.in-Done.plan.changes.list.items pages, (c.in-Done.plan.name, outcome.1, outcome.0), asks relations pages agrees m rows (put relations pages agrees m rows named)))
    (λ changes reply done. record {
      there = done.there;
      few = done.few;
      idle = done.idle;
      does = λ relations pages agrees m rows so.
          let d = done.does relations pages agrees m rows (so.0, c.requires.missing pages agrees m rows.index, put relations pages agrees m rows so.1) in record {
            act = d.act;
            short = d.short;
            modest = d.modest;
            keeps = alone_takes c.args.room (Insert c.args.relation c.args.key.now c.args.value.now) c.in-Done.plan.name.page c.args.relation c.args.key.now pages (after changes pages) so.1
                (inl (put_place at_hand c.args.room total pages _ c.in_ok-page.field-0 c.in-Done.plan c.in-Done.is (c.in_ok-page.ensures.put pages agrees rows.file so.1), tt)) d.keeps;
          };
    }) (λ full relations pages agrees m rows named. inl (full relations pages agrees m rows (put relations pages agrees m rows named)))) (c.add_entry.ensures c.args.value.now)
