use mathlib.Core.Logic.{∥∥₁_elim, ∥∥₁_map}
use Rattle.std.proofs.Props.{props}
use Rattle.std.proofs.Common.{◌≤◌, length, refl, false, ◌≡◌, arith, ◌∙◌, ℕ, None, Some, sym, subst}
use Rattle.std.proofs.lemmas.Result.{IfOk-weaker}
use Rattle.mt_space.specs.Changes.{PageBytes, Agrees, after}
use Rattle.mt_index.specs.Maps.{Map}
use Rattle.mt_steps.specs.Held.{AreRows}
use Rattle.mt_index.specs.Pages.{AreFormed}
use Rattle.mt_index.specs.Answers.{InMaps, Amends, Asks, IsInBucket, AreSeen}
use Rattle.mt_model.specs.declared.operations.Op.TheVariants.{Delete}
use Rattle.mt_steps.specs.Acts.{IsAct, IsTaken}
use Rattle.mt_overlay.specs.Overlays.{shown}
use Rattle.mt_base.specs.declared.modes.Mode.TheVariants.{Write}
use Rattle.mt_steps.specs.Logged.{logged_of}
use Rattle.mt_model.specs.declared.operations.Reply.TheVariants.{Was}
use Rattle.mt_steps.proofs.Single.{lock_some}
use Rattle.mt_steps.proofs.Answered.{answers_weaker, logs_something}
use Rattle.mt_steps.proofs.Asking.{amend_needs, bucket_inside, shown_at_hand, few_more}
use Rattle.mt_steps.proofs.Crowding.{bucket_before}
use Rattle.mt_steps.proofs.Modest.{taken_modest, amended_modest, modest_trans}
use Rattle.mt_steps.specs.Plans.{IsModest}
use Rattle.mt_steps.proofs.Leaving.{amended_is, amend_missing_is, amend_endless_is, taken_map, taken_leaves, taken_form, left}
use Rattle.mt_steps.specs.PlanAnswers.{TakesNone}
use Rattle.mt_steps.proofs.Acting.{amends_file}
use Rattle.mt_steps.proofs.Naming.{taken_none}
use Rattle.mt_steps.proofs.delete_plan.drop_entry.Goals as goal

none_some : {A : Type 0} (x : A) → None ≡ Some x → ⊥
none_some x e = cc

pub returns-in-Missing : goal.returns-in-Missing
returns-in-Missing g c = ∥∥₁_elim c.requires.good (hlevel props) (λ fact.
    let good = fact.1 in
    let placed = fact.2 good.0 good.1 good.2 good.3 in
    let copies = c.in_ok-overlay.overlay.copies.items in
    let outcome = subst (λ x. InMaps (shown copies (g.V.Pages.at_hand x)) (g.V.Pages.total x) (λ pages m. m c.args.relation c.args.key.now ≡ None)) c.in_ok-overlay.ensures.views (amend_missing_is _ c.in_ok-page.field-0 c.in-Missing.is c.in_ok-page.ensures.missing) in
    none_some _ (sym (outcome (after c.args.first.list.items good.0) (c.in_ok-overlay.ensures.agrees good.0 good.1) good.2
    (taken_map fact.0 (g.V.Pages.total c.args.views.now) good.0 good.2 c.args.first.list.items c.args.name.now _ good.3 placed.1)) ∙ placed.0))

pub returns-in-Endless : goal.returns-in-Endless
returns-in-Endless g c = ∥∥₁_elim c.requires.good (hlevel props) (λ fact.
    let good = fact.1 in
    let placed = fact.2 good.0 good.1 good.2 good.3 in
    let copies = c.in_ok-overlay.overlay.copies.items in
    let outcome = subst (λ x. InMaps (shown copies (g.V.Pages.at_hand x)) (g.V.Pages.total x) (λ pages m. ⊥)) c.in_ok-overlay.ensures.views (amend_endless_is _ c.in_ok-page.field-0 c.in-Endless.is c.in_ok-page.ensures.endless) in
    outcome (after c.args.first.list.items good.0) (c.in_ok-overlay.ensures.agrees good.0 good.1) good.2
    (taken_map fact.0 (g.V.Pages.total c.args.views.now) good.0 good.2 c.args.first.list.items c.args.name.now _ good.3 placed.1))

pub over-requires-clause-short : goal.over-requires-clause-short
over-requires-clause-short g c = ∥∥₁_map c.requires.good (λ fact. let good = fact.1 in (good.0, good.1, (fact.2 good.0 good.1 good.2 good.3).1.short))

pub join-requires-clause-short : goal.join-requires-clause-short
join-requires-clause-short g c = ∥∥₁_map c.requires.good (λ fact.
    let good = fact.1 in
    let placed = fact.2 good.0 good.1 good.2 good.3 in
    let copies = c.in_ok-overlay.overlay.copies.items in
    let outcome = subst (λ x. InMaps (shown copies (g.V.Pages.at_hand x)) (g.V.Pages.total x) (λ pages m. Amends (g.V.Pages.total x) pages c.in-Changes.second.list.items m c.args.relation c.args.key.now None)) c.in_ok-overlay.ensures.views
    (amended_is _ c.in_ok-page.field-0 c.in-Changes.second c.in-Changes.is c.in_ok-page.ensures.dropped) in
    let amends = outcome (after c.args.first.list.items good.0) (c.in_ok-overlay.ensures.agrees good.0 good.1) good.2
    (taken_map fact.0 (g.V.Pages.total c.args.views.now) good.0 good.2 c.args.first.list.items c.args.name.now _ good.3 placed.1) in
    (good.0, good.1, placed.1.short, amends.short))

pub returns-in-Need : goal.returns-in-Need
returns-in-Need g c =
    let at_hand = g.V.Pages.at_hand c.args.views.now in
    let total = g.V.Pages.total c.args.views.now in
    let first = c.args.first.list.items in
    let need = subst (λ x. Asks (shown c.in_ok-overlay.overlay.copies.items (g.V.Pages.at_hand x)) (g.V.Pages.total x) (IsInBucket c.args.key.now Write) c.in-Need.page c.in-Need.mode) c.in_ok-overlay.ensures.views
    (amend_needs _ c.in_ok-page.field-0 c.in-Need.page c.in-Need.mode c.in-Need.is c.in_ok-page.ensures.need) in
    let asks = λ (relations : ℕ) (pages : PageBytes) (agrees : Agrees at_hand pages) (m : Map) (rows : AreRows relations total pages m) (taken : IsTaken pages first c.args.name.now (record { relation = c.args.relation; key = c.args.key.now; value = c.args.old })).
    bucket_before total pages (after first pages) m c.args.key.now Write c.in-Need.page c.in-Need.mode rows.index (taken_leaves relations total pages m first c.args.name.now _ rows taken)
    (need.role (after first pages) (c.in_ok-overlay.ensures.agrees pages agrees) m (taken_map relations total pages m first c.args.name.now _ rows taken)) in
    let asked = lock_some at_hand total c.in-Need.page (∥∥₁_map c.requires.good (λ fact. let good = fact.1 in
    (c.in_ok-overlay.ensures.none c.in-Need.page need.missing, bucket_inside total c.args.key.now good.0 good.2 Write c.in-Need.page c.in-Need.mode good.3.index (asks fact.0 good.0 good.1 good.2 good.3 (fact.2 good.0 good.1 good.2 good.3).1)))) in
    (asked.0, asked.1, λ relations pages agrees m rows so. asks relations pages agrees m rows so.1)

pub join-requires-clause-second_there : goal.join-requires-clause-second_there
join-requires-clause-second_there g c =
    let copies = c.in_ok-overlay.overlay.copies.items in
    shown_at_hand copies (g.V.Pages.at_hand c.args.views.now) c.in-Changes.second.list.items c.in_ok-overlay.ensures.copies
    (subst (λ x. AreSeen (shown copies (g.V.Pages.at_hand x)) c.in-Changes.second.list.items) c.in_ok-overlay.ensures.views (amended_is _ c.in_ok-page.field-0 c.in-Changes.second c.in-Changes.is c.in_ok-page.ensures.seen))

pub returns-in-Changes : goal.returns-in-Changes
returns-in-Changes g c =
    let at_hand = g.V.Pages.at_hand c.args.views.now in
    let total = g.V.Pages.total c.args.views.now in
    let first = c.args.first.list.items in
    let second = c.in-Changes.second.list.items in
    let copies = c.in_ok-overlay.overlay.copies.items in
    let outcome = subst (λ x. InMaps (shown copies (g.V.Pages.at_hand x)) (g.V.Pages.total x) (λ pages m. Amends (g.V.Pages.total x) pages second m c.args.relation c.args.key.now None)) c.in_ok-overlay.ensures.views
    (amended_is _ c.in_ok-page.field-0 c.in-Changes.second c.in-Changes.is c.in_ok-page.ensures.dropped) in
    let reported_formed = subst (λ x. InMaps (shown copies (g.V.Pages.at_hand x)) (g.V.Pages.total x) (λ pages m. (relations : ℕ) → AreFormed relations (g.V.Pages.total x) pages → AreFormed relations (g.V.Pages.total x) (after second pages))) c.in_ok-overlay.ensures.views
    (amended_is _ c.in_ok-page.field-0 c.in-Changes.second c.in-Changes.is c.in_ok-page.ensures.formed) in
    let one : length second ≤ 1 = ∥∥₁_elim c.requires.good (hlevel props) (λ fact.
    let good = fact.1 in
    (outcome (after first good.0) (c.in_ok-overlay.ensures.agrees good.0 good.1) good.2 (taken_map fact.0 total good.0 good.2 first c.args.name.now _ good.3 (fact.2 good.0 good.1 good.2 good.3).1)).one) in
    IfOk-weaker c.join.result _ _ (answers_weaker at_hand total _ _ _ _ ⊥ ⊥ (λ p mode never. absurd never) (λ changes reply joined. record {
      there = joined.there;
      few = few_more _ _ _ 1 1 8 joined.few c.requires.few one (omega arith);
      idle = λ none. logs_something (logged_of (Delete c.args.relation c.args.key.now)) reply (Was c.args.old) _ joined.same refl none;
      does = λ relations pages agrees m rows so.
          let mid = after first pages in
          let last = after second mid in
          let taken = so.1 in
          let between = taken_map relations total pages m first c.args.name.now _ rows taken in
          let overlay_agrees = c.in_ok-overlay.ensures.agrees pages agrees in
          let amends = outcome mid overlay_agrees m between in
          let formed = reported_formed mid overlay_agrees m between relations (taken_form relations total pages m first c.args.name.now _ rows taken) in
          let modest = modest_trans at_hand total 0 0 false pages mid last (taken_modest at_hand relations total false pages m first c.args.name.now _ rows c.requires.seen taken)
          (amended_modest at_hand total false mid last m between amends.others) in
          let led = joined.leads pages agrees in record {
            act = subst (λ (next : PageBytes). IsAct relations total pages next (Delete c.args.relation c.args.key.now) reply) (sym led.0)
                (left relations total pages last m first c.args.name.now c.args.relation c.args.key.now c.args.old reply rows so.0 taken amends.map amends.others formed joined.same);
            short = led.1;
            modest = subst (IsModest at_hand total 0 false pages) (sym led.0) modest;
            keeps = subst (TakesNone pages) (sym led.0)
                (taken_none pages mid last c.args.name.now first _ refl taken (amends_file mid last between.space_fixed amends.others) (modest.gives refl));
          };
    }) (λ no. no)) c.join.ensures
