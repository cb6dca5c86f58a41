use mathlib.Core.Logic.{∥∥₁_elim}
use Rattle.std.proofs.Props.{props}
use Rattle.std.proofs.Math.Dec.{T_prop}
use Rattle.mt_model.specs.Tables.{IsLimited}
use Rattle.std.proofs.Common.{rules, arith, inl, get_or, ◌≡◌, ◌∙◌, ◌+◌, ℕ, ℤ, List, None, Some, true, false, sym, ap, subst}
use Rattle.std.specs.Int.{w64}
use Rattle.std.proofs.lemmas.Int.{to_z-of_z}
use Rattle.mt_base.specs.Ranges.{Torn}
use Rattle.mt_space.specs.declared.changes.PageChange.{PageChange}
use Rattle.mt_space.specs.Changes.{PageBytes, after, replaced, IsUntouched, AreShort}
use Rattle.mt_model.specs.declared.operations.Op.TheVariants.{Add}
use Rattle.mt_model.specs.declared.operations.Reply.TheVariants.{Done, OutOfBounds}
use Rattle.mt_model.specs.Model.{moved, stays}
use Rattle.mt_counters.specs.Counters.{place_of, count_in, AreCounters}
use Rattle.mt_steps.specs.Acts.{IsAct}
use Rattle.mt_steps.specs.Plans.{HasNoRecord}
use Rattle.mt_space.proofs.Changing.{replaced_other}
use Rattle.mt_steps.proofs.Modest.{modest_nothing, modest_same, file_empties}
use Rattle.mt_overlay.proofs.Overlaid.{all_at_hand}
use Rattle.mt_steps.proofs.Adding.{file_kept, adds_done, adds_nothing}
use Rattle.mt_steps.specs.PlanAnswers.{TakesNone}
use Rattle.mt_steps.proofs.Apart.{records_stay}
use Rattle.mt_steps.proofs.Naming.{quiet_none, same_none}
use Rattle.mt_steps.proofs.counter_plan.add_to.Goals as goal

none_some : (x : List ℕ) → None ≡ Some x → ⊥
none_some x e = cc

pub add-requires-clause-there : goal.add-requires-clause-there
add-requires-clause-there g c = ∥∥₁_elim c.requires.good (hlevel props) (λ (relations, counters, there, has). let few = has.2.few in omega (arith, there, few))

pub add-requires-clause-limited : goal.add-requires-clause-limited
add-requires-clause-limited g c = ∥∥₁_elim c.requires.good (hlevel (props, T_prop)) (λ (relations, counters, there, has).
    subst (λ (page : List ℕ). IsLimited (count_in page c.args.number)) (has.1 2 c.in-Some.old.now (ap (λ (p : ℕ). g.V.Pages.at_hand c.args.views.now p) (sym c.new-page.ensures) ∙ c.in-Some.ensures.some)) (has.2.each c.args.number there))

pub number_bytes-requires : goal.number_bytes-requires
number_bytes-requires g c = ∥∥₁_elim c.requires.good (hlevel props) (λ (relations, counters, there, has). let few = has.2.few in omega (arith, there, few))

pub note-requires-clause-touched : goal.note-requires-clause-touched
note-requires-clause-touched g c = c.number_bytes.ensures c.in-Some.old.now c.add.new.page (search rules) c.add.ensures.rest

pub returns-then-not-add : goal.returns-then-not-add
returns-then-not-add g c = record {
  lock = search rules;
  mode = search rules;
  made = λ relations pages agrees m rows counters there a.
      let total = g.V.Pages.total c.args.views.now in
      let at_two : pages 2 ≡ c.in-Some.old.now = agrees 2 c.in-Some.old.now (ap (λ (p : ℕ). g.V.Pages.at_hand c.args.views.now p) (sym c.new-page.ensures) ∙ c.in-Some.ensures.some) in
      let leaves : stays (count_in (pages 2) c.args.number) c.args.step ≡ false = ap (λ (page : List ℕ). stays (count_in page c.args.number) c.args.step) at_two ∙ sym (c.add.ensures.outcome ∙ ap (λ (z : ℤ). stays (count_in c.in-Some.old.now c.args.number) z) (to_z-of_z w64 c.args.step c.ranges.step)) ∙ c.if-not-add.true in
      subst (λ (l : List PageChange). IsAct relations total pages (after l pages) (Add c.args.number c.args.step) OutOfBounds × AreShort l pages) (sym c.new-changes.ensures)
      (adds_nothing relations total pages m c.args.number counters c.args.step rows there a leaves, tt);
  there = search rules;
  few = search rules;
  idle = search rules;
  modest = λ relations pages agrees m rows. modest_nothing (g.V.Pages.at_hand c.args.views.now) (g.V.Pages.total c.args.views.now) 0 false pages c.new-changes.result.list.items c.new-changes.ensures;
  takes = λ relations pages agrees m rows. quiet_none pages c.new-changes.result.list.items c.new-changes.ensures;
  full = search rules;
  broken = search rules;
}

pub returns : goal.returns
returns g c = record {
  lock = search rules;
  mode = search rules;
  made = λ relations pages agrees m rows counters there a.
      let total = g.V.Pages.total c.args.views.now in
      let p = c.new-page.result in
      let new = c.add.new.page in
      let list = c.new-changes.result.list.items in
      let at_two : pages 2 ≡ c.in-Some.old.now = agrees 2 c.in-Some.old.now (ap (λ (q : ℕ). g.V.Pages.at_hand c.args.views.now q) (sym c.new-page.ensures) ∙ c.in-Some.ensures.some) in
      let at_page : pages p ≡ c.in-Some.old.now = ap pages c.new-page.ensures ∙ at_two in
      let fits : stays (count_in (pages 2) c.args.number) c.args.step ≡ true = ap (λ (page : List ℕ). stays (count_in page c.args.number) c.args.step) at_two ∙ sym (c.add.ensures.outcome ∙ ap (λ (z : ℤ). stays (count_in c.in-Some.old.now c.args.number) z) (to_z-of_z w64 c.args.step c.ranges.step)) ∙ c.if-not-add.false in
      let noted = c.in_ok-note.ensures.noted pages (ap (λ (l : List PageChange). after l pages p) c.new-changes.ensures ∙ at_page) in
      let made : after c.note.new.self.list.items pages ≡ replaced 2 new pages =
      noted ∙ ap (λ (l : List PageChange). replaced p new (after l pages)) c.new-changes.ensures ∙ ap (λ (q : ℕ). replaced q new pages) c.new-page.ensures in
      let short = c.in_ok-note.ensures.short pages at_page (subst (λ (l : List PageChange). IsUntouched l p) (sym c.new-changes.ensures) tt) (subst (λ (l : List PageChange). AreShort l pages) (sym c.new-changes.ensures) tt) in
      let here = c.if-not-add.ensures.done ∙ ap (λ (z : ℤ). moved (count_in c.in-Some.old.now c.args.number) z) (to_z-of_z w64 c.args.step c.ranges.step) ∙ ap (λ (page : List ℕ). moved (count_in page c.args.number) c.args.step) (sym at_two) in
      let torn : Torn (place_of c.args.number + 16) 8 (pages 2) new = subst (λ (page : List ℕ). Torn (place_of c.args.number + 16) 8 page new) (sym at_two) c.add.ensures.rest in (
        subst (λ (last : PageBytes). IsAct relations total pages last (Add c.args.number c.args.step) Done) (sym made)
            (adds_done relations total pages m c.args.number counters c.args.step new rows there a fits here torn (λ r n old. c.add.ensures.kept r n (subst (λ (page : List ℕ). AreCounters r n page) at_two old))),
        short,
      );
  there = let at_hand = g.V.Pages.at_hand c.args.views.now in
      let p = c.new-page.result in
      all_at_hand at_hand c.note.new.self.list.items (λ q none. c.in_ok-note.ensures.others q
      (λ e. none_some c.in-Some.old.now (sym (ap at_hand (sym e) ∙ none) ∙ c.in-Some.ensures.some))
      (subst (λ (l : List PageChange). IsUntouched l q) (sym c.new-changes.ensures) tt));
  few = search rules;
  idle = search rules;
  modest = λ relations pages agrees m rows.
      let p = c.new-page.result in
      let list = c.new-changes.result.list.items in
      let at_page : pages p ≡ c.in-Some.old.now = agrees p c.in-Some.old.now c.in-Some.ensures.some in
      let empty : after list pages ≡ pages = ap (λ (l : List PageChange). after l pages) c.new-changes.ensures in
      let noted = c.in_ok-note.ensures.noted pages (ap (λ (f : PageBytes). f p) empty ∙ at_page) in
      let two = c.new-page.ensures in
      let made = noted ∙ ap (replaced p c.add.new.page) empty in
      modest_same (g.V.Pages.at_hand c.args.views.now) (g.V.Pages.total c.args.views.now) 0 false pages (after c.note.new.self.list.items pages)
      (λ q none. file_empties pages (replaced 2 c.add.new.page pages) (file_kept relations (g.V.Pages.total c.args.views.now) pages m c.add.new.page rows) q
      (subst (λ (f : PageBytes). HasNoRecord f q) (made ∙ ap (λ (n : ℕ). replaced n c.add.new.page pages) two) none))
      (ap (λ (f : PageBytes). f 0) made ∙ replaced_other p 0 c.add.new.page pages (λ e. let zero : 0 ≡ p = e in omega (arith, two, zero)))
      (ap (λ (f : PageBytes). f 1) made ∙ replaced_other p 1 c.add.new.page pages (λ e. let one : 1 ≡ p = e in omega (arith, two, one)));
  takes = λ relations pages agrees m rows.
      let p = c.new-page.result in
      let list = c.new-changes.result.list.items in
      let last = after c.note.new.self.list.items pages in
      let at_page : pages p ≡ c.in-Some.old.now = agrees p c.in-Some.old.now c.in-Some.ensures.some in
      let empty : after list pages ≡ pages = ap (λ (l : List PageChange). after l pages) c.new-changes.ensures in
      let two = c.new-page.ensures in
      let made : last ≡ replaced 2 c.add.new.page pages = c.in_ok-note.ensures.noted pages (ap (λ (f : PageBytes). f p) empty ∙ at_page) ∙ ap (replaced p c.add.new.page) empty ∙ ap (λ (n : ℕ). replaced n c.add.new.page pages) two in
      let kept = file_kept relations (g.V.Pages.total c.args.views.now) pages m c.add.new.page rows in
      subst (TakesNone pages) (sym made) (same_none pages (replaced 2 c.add.new.page pages)
      (λ q. inl (ap (λ (map : List ℕ). get_or map q 0) (replaced_other 2 0 c.add.new.page pages (omega arith)))) (records_stay pages (replaced 2 c.add.new.page pages) kept));
  full = search rules;
  broken = search rules;
}

pub returns-in_default : goal.returns-in_default
returns-in_default g c = record {
  lock = (c.in_default.ensures.none, c.new-page.ensures);
  mode = search rules;
  made = search rules;
  there = search rules;
  few = search rules;
  idle = search rules;
  modest = search rules;
  takes = search rules;
  full = search rules;
  broken = search rules;
}
