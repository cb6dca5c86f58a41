use mathlib.Core.Logic.{∥∥₁_elim, ∥∥₁_map}
use Rattle.std.proofs.Props.{props}
use Rattle.std.proofs.Common.{◌≤◌, length, refl, cond, ◌≡◌, arith, None, Some, sym, subst}
use Rattle.mt_bucket.specs.Entries.{Entry}
use Rattle.mt_space.specs.Changes.{PageBytes, after}
use Rattle.mt_index.specs.Maps.{alter}
use Rattle.mt_index.specs.Pages.{AreMap}
use Rattle.mt_index.specs.Answers.{InMaps, Adds, Asks, IsInAdd, IsDueInAdd, TakesSeen, AreSeen, Shortage}
use Rattle.std.proofs.lemmas.Result.{IfOk-weaker}
use Rattle.mt_model.specs.declared.operations.Op.TheVariants.{Insert}
use Rattle.mt_steps.specs.Acts.{IsAct}
use Rattle.mt_steps.specs.Plans.{IsModest}
use Rattle.mt_overlay.specs.Overlays.{shown}
use Rattle.mt_steps.specs.Logged.{logged_of}
use Rattle.mt_model.specs.declared.operations.Reply.TheVariants.{Done}
use Rattle.mt_steps.proofs.Single.{lock_some}
use Rattle.mt_steps.proofs.Answered.{answers_weaker, logs_something}
use Rattle.mt_steps.proofs.Asking.{add_needs, add_inside, shown_at_hand, few_more}
use Rattle.mt_overlay.proofs.Overlaid.{below_some}
use Rattle.mt_steps.proofs.Modest.{placed_modest, added_modest, modest_trans, modest_more, insert_needs, shortage_few}
use Rattle.mt_steps.proofs.Entering.{added_is, full_is, endless_is, placed_map, placed_leaves, entered}
use Rattle.mt_steps.specs.PlanAnswers.{TakesAlone}
use Rattle.mt_steps.proofs.Naming.{placed_kinds, placed_alone, added_alone}
use Rattle.mt_steps.proofs.insert_plan.add_entry.Goals as goal

pub returns-in-Endless : goal.returns-in-Endless
returns-in-Endless g c = λ value. ∥∥₁_elim c.requires.good (hlevel props) (λ fact.
    let good = fact.3 in
    let placed = fact.4 good.0 good.1 good.2 good.3 good.4 in
    let copies = c.in_ok-overlay.overlay.copies.items in
    let outcome = subst (λ x. InMaps (shown copies (g.V.Pages.at_hand x)) (g.V.Pages.total x) (λ pages m. ⊥)) c.in_ok-overlay.ensures.views (endless_is _ c.in_ok-page.field-0 c.in-Endless.is c.in_ok-page.ensures.endless) in
    outcome (after c.args.plan.changes.list.items good.0) (c.in_ok-overlay.ensures.agrees good.0 good.1) good.2
    (placed_map fact.0 (g.V.Pages.total c.args.views.now) good.0 good.2 c.args.plan.changes.list.items c.args.plan.name _ good.3 placed))

pub over-requires-clause-short : goal.over-requires-clause-short
over-requires-clause-short g c = ∥∥₁_map c.requires.good (λ fact. let good = fact.3 in (good.0, good.1, (fact.4 good.0 good.1 good.2 good.3 good.4).short))

pub join-requires-clause-short : goal.join-requires-clause-short
join-requires-clause-short g c = ∥∥₁_map c.requires.good (λ fact.
    let good = fact.3 in
    let placed = fact.4 good.0 good.1 good.2 good.3 good.4 in
    let copies = c.in_ok-overlay.overlay.copies.items in
    let e : Entry = record { relation = c.args.relation; key = c.args.key.now; name = c.args.plan.name } in
    let outcome = subst (λ x. InMaps (shown copies (g.V.Pages.at_hand x)) (g.V.Pages.total x) (λ pages m. Adds c.args.split (g.V.Pages.total x) e pages c.in-Changes.changes.list.items)) c.in_ok-overlay.ensures.views
    (added_is _ c.in_ok-page.field-0 c.in-Changes.changes c.in-Changes.is c.in_ok-page.ensures.added) in
    let adds = outcome (after c.args.plan.changes.list.items good.0) (c.in_ok-overlay.ensures.agrees good.0 good.1) good.2
    (placed_map fact.0 (g.V.Pages.total c.args.views.now) good.0 good.2 c.args.plan.changes.list.items c.args.plan.name _ good.3 placed) in
    (good.0, good.1, placed.short, adds.short))

pub returns-in-Need : goal.returns-in-Need
returns-in-Need g c = λ value.
    let at_hand = g.V.Pages.at_hand c.args.views.now in
    let total = g.V.Pages.total c.args.views.now in
    let first = c.args.plan.changes.list.items in
    let need = subst (λ x. Asks (shown c.in_ok-overlay.overlay.copies.items (g.V.Pages.at_hand x)) (g.V.Pages.total x) (IsInAdd c.args.split c.args.key.now (g.V.Pages.total x)) c.in-Need.page c.in-Need.mode) c.in_ok-overlay.ensures.views
    (add_needs _ c.in_ok-page.field-0 c.in-Need.page c.in-Need.mode c.in-Need.is c.in_ok-page.ensures.need) in
    let due = subst (λ x. Asks (shown c.in_ok-overlay.overlay.copies.items (g.V.Pages.at_hand x)) (g.V.Pages.total x) (IsDueInAdd c.args.split c.args.key.now (g.V.Pages.total x)) c.in-Need.page c.in-Need.mode) c.in_ok-overlay.ensures.views
    (add_needs _ c.in_ok-page.field-0 c.in-Need.page c.in-Need.mode c.in-Need.is c.in_ok-page.ensures.due) in
    let asked = lock_some at_hand total c.in-Need.page (∥∥₁_map c.requires.good (λ fact.
    let good = fact.3 in
    let between = placed_map fact.0 total good.0 good.2 first c.args.plan.name _ good.3 (fact.4 good.0 good.1 good.2 good.3 good.4) in (
      c.in_ok-overlay.ensures.none c.in-Need.page need.missing,
      add_inside total c.args.split c.args.key.now (after first good.0) good.2 c.in-Need.page c.in-Need.mode between (need.role (after first good.0) (c.in_ok-overlay.ensures.agrees good.0 good.1) good.2 between),
    ))) in (
      asked.0,
      asked.1,
      λ relations pages agrees m rows placed. due.role (after first pages) (c.in_ok-overlay.ensures.agrees pages agrees) m (placed_map relations total pages m first c.args.plan.name _ rows placed),
    )

pub join-requires-clause-second_there : goal.join-requires-clause-second_there
join-requires-clause-second_there g c =
    let copies = c.in_ok-overlay.overlay.copies.items in
    shown_at_hand copies (g.V.Pages.at_hand c.args.views.now) c.in-Changes.changes.list.items c.in_ok-overlay.ensures.copies
    (subst (λ x. AreSeen (shown copies (g.V.Pages.at_hand x)) c.in-Changes.changes.list.items) c.in_ok-overlay.ensures.views (added_is _ c.in_ok-page.field-0 c.in-Changes.changes c.in-Changes.is c.in_ok-page.ensures.there))

pub returns-in-Full : goal.returns-in-Full
returns-in-Full g c = λ value relations pages agrees m rows placed.
    let first = c.args.plan.changes.list.items in
    let total = g.V.Pages.total c.args.views.now in
    let mid = after first pages in
    let copies = c.in_ok-overlay.overlay.copies.items in
    let e : Entry = record { relation = c.args.relation; key = c.args.key.now; name = c.args.plan.name } in
    let between = placed_map relations total pages m first c.args.plan.name _ rows placed in
    let short = subst (λ x. InMaps (shown copies (g.V.Pages.at_hand x)) (g.V.Pages.total x) (λ pages m. Shortage c.args.split (g.V.Pages.total x) e pages)) c.in_ok-overlay.ensures.views
    (full_is _ c.in_ok-page.field-0 c.in-Full.is c.in_ok-page.ensures.full) mid (c.in_ok-overlay.ensures.agrees pages agrees) m between in
    let takes = (placed_modest (g.V.Pages.at_hand c.args.views.now) relations total c.args.split pages m first c.args.plan.name _ rows c.requires.seen placed).takes in
    let one = shortage_few c.args.split total e mid placed.adds.file.whole between.few short in
    let needs = insert_needs c.args.split in
    omega (arith, takes, one, needs)

pub returns-in-Changes : goal.returns-in-Changes
returns-in-Changes g c = λ value.
    let at_hand = g.V.Pages.at_hand c.args.views.now in
    let total = g.V.Pages.total c.args.views.now in
    let first = c.args.plan.changes.list.items in
    let name = c.args.plan.name in
    let second = c.in-Changes.changes.list.items in
    let copies = c.in_ok-overlay.overlay.copies.items in
    let e : Entry = record { relation = c.args.relation; key = c.args.key.now; name = name } in
    let outcome = subst (λ x. InMaps (shown copies (g.V.Pages.at_hand x)) (g.V.Pages.total x) (λ pages m. Adds c.args.split (g.V.Pages.total x) e pages second)) c.in_ok-overlay.ensures.views
    (added_is _ c.in_ok-page.field-0 c.in-Changes.changes c.in-Changes.is c.in_ok-page.ensures.added) in
    let reported_map = subst (λ x. InMaps (shown copies (g.V.Pages.at_hand x)) (g.V.Pages.total x) (λ pages m. m c.args.relation c.args.key.now ≡ None → AreMap (g.V.Pages.total x) (after second pages) (alter m c.args.relation c.args.key.now (Some name)))) c.in_ok-overlay.ensures.views
    (added_is _ c.in_ok-page.field-0 c.in-Changes.changes c.in-Changes.is c.in_ok-page.ensures.map) in
    let reported_seen = subst (λ x. InMaps (shown copies (g.V.Pages.at_hand x)) (g.V.Pages.total x) (λ pages m. TakesSeen (shown copies (g.V.Pages.at_hand x)) pages second)) c.in_ok-overlay.ensures.views
    (added_is _ c.in_ok-page.field-0 c.in-Changes.changes c.in-Changes.is c.in_ok-page.ensures.seen) in
    let few : length second ≤ 5 = ∥∥₁_elim c.requires.good (hlevel props) (λ fact.
    let good = fact.3 in
    (outcome (after first good.0) (c.in_ok-overlay.ensures.agrees good.0 good.1) good.2 (placed_map fact.0 total good.0 good.2 first name _ good.3 (fact.4 good.0 good.1 good.2 good.3 good.4))).few) in
    IfOk-weaker c.join.result _ _ (answers_weaker at_hand total _ _ _ _ ⊥ _ (λ p mode never. absurd never) (λ changes reply joined. record {
      there = joined.there;
      few = few_more _ _ _ 2 5 8 joined.few c.requires.few few (omega arith);
      idle = λ none. logs_something (logged_of (Insert c.args.relation c.args.key.now value)) reply Done _ joined.same refl none;
      does = λ relations pages agrees m rows so.
          let mid = after first pages in
          let last = after second mid in
          let placed = so.2 in
          let between = placed_map relations total pages m first name _ rows placed in
          let overlay_agrees = c.in_ok-overlay.ensures.agrees pages agrees in
          let adds = outcome mid overlay_agrees m between in
          let map = reported_map mid overlay_agrees m between so.1 in
          let seen = reported_seen mid overlay_agrees m between in
          let led = joined.leads pages agrees in record {
            act = subst (λ (next : PageBytes). IsAct relations total pages next (Insert c.args.relation c.args.key.now value) reply) (sym led.0)
                (entered relations total c.args.split pages last m first name c.args.relation c.args.key.now value reply rows so.1 so.0 placed map adds.added joined.same);
            short = led.1;
            modest = subst (λ (next : PageBytes). IsModest at_hand total (cond c.args.split 3 2) c.args.split pages next) (sym led.0)
                (modest_more at_hand total _ (cond c.args.split 3 2) c.args.split pages last (insert_needs c.args.split)
                (modest_trans at_hand total 1 (cond c.args.split 2 1) c.args.split pages mid last (placed_modest at_hand relations total c.args.split pages m first name _ rows c.requires.seen placed)
                (added_modest at_hand c.args.split total e mid last m between (λ p free some. below_some copies at_hand p c.in_ok-overlay.ensures.copies (seen p free some)) adds.added)));
            keeps = subst (TakesAlone name.page c.args.relation c.args.key.now (Insert c.args.relation c.args.key.now value) pages) (sym led.0)
                (added_alone c.args.split total relations name.page c.args.relation c.args.key.now value name pages mid last m rows (placed_leaves relations total pages m first name _ rows placed) between
                (placed_kinds total pages first name _ placed) adds.added (placed_alone total pages first name _ _ placed));
          };
    }) (λ no. absurd no)) c.join.ensures
