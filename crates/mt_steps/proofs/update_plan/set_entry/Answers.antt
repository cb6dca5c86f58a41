use mathlib.Core.Logic.{∥∥₁_elim, ∥∥₁_map}
use Rattle.std.proofs.Props.{props}
use Rattle.std.proofs.Common.{◌≤◌, length, refl, false, ◌≡◌, arith, ◌<◌, ◌∙◌, ℕ, None, Some, sym, subst}
use Rattle.std.proofs.lemmas.Result.{IfOk-weaker}
use Rattle.mt_base.specs.declared.numbers.RecordName.{RecordName}
use Rattle.mt_slots.specs.Page.{Row}
use Rattle.mt_space.specs.Changes.{PageBytes, Agrees, after}
use Rattle.mt_index.specs.Maps.{Map}
use Rattle.mt_steps.specs.Held.{AreRows}
use Rattle.mt_index.specs.Pages.{AreFormed}
use Rattle.mt_index.specs.Answers.{InMaps, Amends, Asks, IsInBucket, AreSeen}
use Rattle.mt_model.specs.declared.operations.Op.TheVariants.{Update}
use Rattle.mt_steps.specs.Acts.{IsAct, IsMoved}
use Rattle.mt_overlay.specs.Overlays.{shown}
use Rattle.mt_base.specs.declared.modes.Mode.TheVariants.{Write}
use Rattle.mt_steps.specs.Logged.{logged_of}
use Rattle.mt_model.specs.declared.operations.Reply.TheVariants.{Was}
use Rattle.mt_steps.proofs.Single.{lock_some}
use Rattle.mt_steps.proofs.Answered.{answers_weaker, logs_something}
use Rattle.mt_steps.proofs.Asking.{amend_needs, bucket_inside, shown_at_hand, few_more}
use Rattle.mt_steps.proofs.Crowding.{bucket_before}
use Rattle.mt_steps.proofs.Modest.{moved_modest, amended_modest, modest_trans}
use Rattle.mt_steps.specs.Plans.{IsModest}
use Rattle.mt_steps.proofs.Leaving.{amended_is, amend_missing_is, amend_endless_is}
use Rattle.mt_steps.proofs.Shifting.{moved_leaves, moved_map, moved_act, to_inside}
use Rattle.mt_steps.specs.PlanAnswers.{TakesAlone}
use Rattle.mt_steps.proofs.Acting.{amends_file}
use Rattle.mt_steps.proofs.Naming.{moved_alone, amended_alone}
use Rattle.mt_steps.proofs.update_plan.set_entry.Goals as goal

none_some : {A : Type 0} (x : A) → None ≡ Some x → ⊥
none_some x e = cc

pub returns-in-Missing : goal.returns-in-Missing
returns-in-Missing g c = λ name value seen. ∥∥₁_elim c.requires.good (hlevel props) (λ fact.
    let good = fact.4 in
    let placed = fact.5 good.0 good.1 good.2 good.3 good.4 in
    let copies = c.in_ok-overlay.overlay.copies.items in
    let outcome = subst (λ x. InMaps (shown copies (g.V.Pages.at_hand x)) (g.V.Pages.total x) (λ pages m. m c.args.relation c.args.key.now ≡ None)) c.in_ok-overlay.ensures.views (amend_missing_is _ c.in_ok-page.field-0 c.in-Missing.is c.in_ok-page.ensures.missing) in
    none_some _ (sym (outcome (after c.args.plan.changes.list.items good.0) (c.in_ok-overlay.ensures.agrees good.0 good.1) good.2
    (moved_map fact.0 (g.V.Pages.total c.args.views.now) good.0 good.2 c.args.plan.changes.list.items fact.2 c.args.plan.name _ _ good.3 placed.1).0) ∙ placed.0))

pub returns-in-Endless : goal.returns-in-Endless
returns-in-Endless g c = λ name value seen. ∥∥₁_elim c.requires.good (hlevel props) (λ fact.
    let good = fact.4 in
    let placed = fact.5 good.0 good.1 good.2 good.3 good.4 in
    let copies = c.in_ok-overlay.overlay.copies.items in
    let outcome = subst (λ x. InMaps (shown copies (g.V.Pages.at_hand x)) (g.V.Pages.total x) (λ pages m. ⊥)) c.in_ok-overlay.ensures.views (amend_endless_is _ c.in_ok-page.field-0 c.in-Endless.is c.in_ok-page.ensures.endless) in
    outcome (after c.args.plan.changes.list.items good.0) (c.in_ok-overlay.ensures.agrees good.0 good.1) good.2
    (moved_map fact.0 (g.V.Pages.total c.args.views.now) good.0 good.2 c.args.plan.changes.list.items fact.2 c.args.plan.name _ _ good.3 placed.1).0)

pub over-requires-clause-short : goal.over-requires-clause-short
over-requires-clause-short g c = ∥∥₁_map c.requires.good (λ fact. let good = fact.4 in (good.0, good.1, (fact.5 good.0 good.1 good.2 good.3 good.4).1.short))

pub join-requires-clause-short : goal.join-requires-clause-short
join-requires-clause-short g c = ∥∥₁_map c.requires.good (λ fact.
    let good = fact.4 in
    let placed = fact.5 good.0 good.1 good.2 good.3 good.4 in
    let copies = c.in_ok-overlay.overlay.copies.items in
    let outcome = subst (λ x. InMaps (shown copies (g.V.Pages.at_hand x)) (g.V.Pages.total x) (λ pages m. Amends (g.V.Pages.total x) pages c.in-Changes.second.list.items m c.args.relation c.args.key.now (Some c.args.plan.name))) c.in_ok-overlay.ensures.views
    (amended_is _ c.in_ok-page.field-0 c.in-Changes.second c.in-Changes.is c.in_ok-page.ensures.set) in
    let amends = outcome (after c.args.plan.changes.list.items good.0) (c.in_ok-overlay.ensures.agrees good.0 good.1) good.2
    (moved_map fact.0 (g.V.Pages.total c.args.views.now) good.0 good.2 c.args.plan.changes.list.items fact.2 c.args.plan.name _ _ good.3 placed.1).0 in
    (good.0, good.1, placed.1.short, amends.short))

pub returns-in-Need : goal.returns-in-Need
returns-in-Need g c = λ name value seen.
    let at_hand = g.V.Pages.at_hand c.args.views.now in
    let total = g.V.Pages.total c.args.views.now in
    let first = c.args.plan.changes.list.items in
    let to = c.args.plan.name in
    let need = subst (λ x. Asks (shown c.in_ok-overlay.overlay.copies.items (g.V.Pages.at_hand x)) (g.V.Pages.total x) (IsInBucket c.args.key.now Write) c.in-Need.page c.in-Need.mode) c.in_ok-overlay.ensures.views
    (amend_needs _ c.in_ok-page.field-0 c.in-Need.page c.in-Need.mode c.in-Need.is c.in_ok-page.ensures.need) in
    let asks = λ (name : RecordName) (old row : Row) (relations : ℕ) (pages : PageBytes) (agrees : Agrees at_hand pages) (m : Map) (rows : AreRows relations total pages m) (moved : IsMoved total pages first name to old row).
    bucket_before total pages (after first pages) m c.args.key.now Write c.in-Need.page c.in-Need.mode rows.index (moved_leaves relations total pages m first name to old row rows moved)
    (need.role (after first pages) (c.in_ok-overlay.ensures.agrees pages agrees) m (moved_map relations total pages m first name to old row rows moved).0) in
    let asked = lock_some at_hand total c.in-Need.page (∥∥₁_map c.requires.good (λ fact. let good = fact.4 in (
      c.in_ok-overlay.ensures.none c.in-Need.page need.missing,
      bucket_inside total c.args.key.now good.0 good.2 Write c.in-Need.page c.in-Need.mode good.3.index (asks fact.2 _ _ fact.0 good.0 good.1 good.2 good.3 (fact.5 good.0 good.1 good.2 good.3 good.4).1),
    ))) in
    (asked.0, asked.1, asks name _ _)

pub join-requires-clause-second_there : goal.join-requires-clause-second_there
join-requires-clause-second_there g c =
    let copies = c.in_ok-overlay.overlay.copies.items in
    shown_at_hand copies (g.V.Pages.at_hand c.args.views.now) c.in-Changes.second.list.items c.in_ok-overlay.ensures.copies
    (subst (λ x. AreSeen (shown copies (g.V.Pages.at_hand x)) c.in-Changes.second.list.items) c.in_ok-overlay.ensures.views (amended_is _ c.in_ok-page.field-0 c.in-Changes.second c.in-Changes.is c.in_ok-page.ensures.seen))

pub returns-in-Changes : goal.returns-in-Changes
returns-in-Changes g c = λ name value seen.
    let at_hand = g.V.Pages.at_hand c.args.views.now in
    let total = g.V.Pages.total c.args.views.now in
    let first = c.args.plan.changes.list.items in
    let to = c.args.plan.name in
    let second = c.in-Changes.second.list.items in
    let copies = c.in_ok-overlay.overlay.copies.items in
    let outcome = subst (λ x. InMaps (shown copies (g.V.Pages.at_hand x)) (g.V.Pages.total x) (λ pages m. Amends (g.V.Pages.total x) pages second m c.args.relation c.args.key.now (Some to))) c.in_ok-overlay.ensures.views
    (amended_is _ c.in_ok-page.field-0 c.in-Changes.second c.in-Changes.is c.in_ok-page.ensures.set) in
    let reported_formed = subst (λ x. InMaps (shown copies (g.V.Pages.at_hand x)) (g.V.Pages.total x) (λ pages m. (relations : ℕ) → to.page < g.V.Pages.total x → AreFormed relations (g.V.Pages.total x) pages → AreFormed relations (g.V.Pages.total x) (after second pages))) c.in_ok-overlay.ensures.views
    (amended_is _ c.in_ok-page.field-0 c.in-Changes.second c.in-Changes.is c.in_ok-page.ensures.formed) in
    let one : length second ≤ 1 = ∥∥₁_elim c.requires.good (hlevel props) (λ fact.
    let good = fact.4 in
    (outcome (after first good.0) (c.in_ok-overlay.ensures.agrees good.0 good.1) good.2 (moved_map fact.0 total good.0 good.2 first fact.2 to _ _ good.3 (fact.5 good.0 good.1 good.2 good.3 good.4).1).0).one) in
    IfOk-weaker c.join.result _ _ (answers_weaker at_hand total _ _ _ _ ⊥ ⊥ (λ p mode never. absurd never) (λ changes reply joined. record {
      there = joined.there;
      few = few_more _ _ _ 3 1 8 joined.few c.requires.few one (omega arith);
      idle = λ none. logs_something (logged_of (Update c.args.relation c.args.key.now value)) reply (Was c.args.old) _ joined.same refl none;
      does = λ relations pages agrees m rows so.
          let mid = after first pages in
          let last = after second mid in
          let moved = so.2 in
          let between = moved_map relations total pages m first name to _ _ rows moved in
          let overlay_agrees = c.in_ok-overlay.ensures.agrees pages agrees in
          let amends = outcome mid overlay_agrees m between.0 in
          let formed = reported_formed mid overlay_agrees m between.0 relations (to_inside relations total pages m first name to _ _ rows moved) between.1 in
          let led = joined.leads pages agrees in record {
            act = subst (λ (next : PageBytes). IsAct relations total pages next (Update c.args.relation c.args.key.now value) reply) (sym led.0)
                (moved_act relations total pages last m first name to c.args.relation c.args.key.now c.args.old value reply rows so.1 so.0 moved amends.map amends.others formed joined.same);
            short = led.1;
            modest = subst (λ (next : PageBytes). IsModest at_hand total 1 false pages next) (sym led.0)
                (modest_trans at_hand total 1 0 false pages mid last (moved_modest at_hand relations total false pages m first name to _ _ rows seen c.requires.seen moved)
                (amended_modest at_hand total false mid last m between.0 amends.others));
            keeps = subst (TakesAlone to.page c.args.relation c.args.key.now (Update c.args.relation c.args.key.now value) pages) (sym led.0)
                (amended_alone to.page c.args.relation c.args.key.now _ pages mid last between.0.space_fixed (amends_file mid last between.0.space_fixed amends.others) amends.others (moved_alone total pages first name to _ _ _ moved));
          };
    }) (λ no. no)) c.join.ensures
