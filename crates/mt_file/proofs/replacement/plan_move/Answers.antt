use mathlib.Core.Logic.{∥∥₁_elim, ∥∥₁_map}
use Rattle.std.proofs.Props.{props}
use Rattle.std.proofs.Common.{rules, [], ◌≡◌, ◌≢◌, ℕ, List, Option, Some, None, refl, sym, ap, subst, ◌∙◌, inl, inr}
use Rattle.std.proofs.lemmas.Result.{IfOk-weaker}
use Rattle.mt_space.specs.declared.changes.PageChange.{PageChange}
use Rattle.mt_space.specs.Changes.{PageBytes, after, replaced, IsUntouched, AreShort}
use Rattle.mt_space.proofs.Changing.{replaced_other, off_hand, none_touched}
use Rattle.mt_slots.specs.Page.{Row, row_length}
use Rattle.mt_file.specs.File.{Moves}
use Rattle.mt_file.specs.Plans.{IsTooFull, IsPut, IsWhole}
use Rattle.mt_file.proofs.Filed.{records_not_map}
use Rattle.mt_file.proofs.Slots.{row_small}
use Rattle.mt_file.proofs.Shaped.{shaped_of}
use Rattle.mt_file.proofs.Planned.{is_held, noted_first, drops_one}
use Rattle.mt_file.proofs.Moved.{moves_whole, ready_mid, apart_mid, moves_on, own_full, named_is, named_is_not, same_row, room_seen, done_weaker}
use Rattle.mt_file.proofs.replacement.plan_move.Goals as goal

pub get-requires : goal.get-requires
get-requires g c = record {
  shaped = shaped_of c.args.old.now (∥∥₁_map c.requires.good (λ good. (is_held (g.V.Pages.at_hand c.args.views.now) good.0 c.args.name.page c.args.name.slot c.args.old.now good.1 good.2 good.3 good.5 c.requires.there).shaped));
}

pub returns-in_default : goal.returns-in_default
returns-in_default g c = record {
  replacement = λ pages r agrees file named is.
      let held = is_held (g.V.Pages.at_hand c.args.views.now) pages c.args.name.page c.args.name.slot c.args.old.now r agrees file is c.requires.there in
      let none : None ≡ Some r = sym c.in_default.ensures.none ∙ held.live in
      cc;
  short = search rules;
  few = search rules;
  seen = search rules;
  there = search rules;
}

pub remove-touched-requires-clause-shaped : goal.remove-touched-requires-clause-shaped
remove-touched-requires-clause-shaped g c = shaped_of c.args.old.now (∥∥₁_map c.requires.good (λ good.
    (is_held (g.V.Pages.at_hand c.args.views.now) good.0 c.args.name.page c.args.name.slot c.args.old.now good.1 good.2 good.3 good.5 c.requires.there).shaped))

pub remove-touched-requires-clause-there : goal.remove-touched-requires-clause-there
remove-touched-requires-clause-there g c = ∥∥₁_elim c.requires.good (hlevel props) (λ good.
    (is_held (g.V.Pages.at_hand c.args.views.now) good.0 c.args.name.page c.args.name.slot c.args.old.now good.1 good.2 good.3 good.5 c.requires.there).there)

pub put-requires-clause-ready : goal.put-requires-clause-ready
put-requires-clause-ready g c = ∥∥₁_map c.requires.good (λ (pages, r, agrees, file, named, is). (pages, record { file = file; named = named; seen = λ p bytes kept there. agrees p bytes there }))

pub write_whole-requires-clause-relation_fits : goal.write_whole-requires-clause-relation_fits
write_whole-requires-clause-relation_fits g c = (row_small c.args.old.now c.args.name.slot _ c.fits-old c.in-Some.ensures.found).0

pub write_whole-requires-clause-key_fits : goal.write_whole-requires-clause-key_fits
write_whole-requires-clause-key_fits g c = (row_small c.args.old.now c.args.name.slot _ c.fits-old c.in-Some.ensures.found).1

pub put-requires-clause-relation_fits : goal.put-requires-clause-relation_fits
put-requires-clause-relation_fits g c = (row_small c.args.old.now c.args.name.slot _ c.fits-old c.in-Some.ensures.found).0

pub put-requires-clause-key_fits : goal.put-requires-clause-key_fits
put-requires-clause-key_fits g c = (row_small c.args.old.now c.args.name.slot _ c.fits-old c.in-Some.ensures.found).1

pub returns-then-live-eq0 : goal.returns-then-live-eq0
returns-then-live-eq0 g c = record {
  replacement = λ pages r agrees file named is.
      let p = c.args.name.page in
      let s = c.args.name.slot in
      let old = c.args.old.now in
      let held = is_held (g.V.Pages.at_hand c.args.views.now) pages p s old r agrees file is c.requires.there in
      let row : Row = record r { value = c.args.value.now } in
      let plan = c.in_ok-plan.plan in
      let same : r ≡ record { relation = c.in-Some.row.relation; key = c.in-Some.row.key.now; value = c.in-Some.row.value.now } = same_row pages p s old r _ held c.in-Some.ensures.found in
      let whole = subst (λ (k : Row). IsWhole pages (after plan.changes.list.items pages) p plan.name.slot k) (sym (ap (λ (k : Row). record k { value = c.args.value.now }) same))
      (c.in_ok-plan.ensures.whole pages held.seen) in
      let moves = moves_whole pages (after plan.changes.list.items pages) p s plan.name.slot r row old c.remove-touched.new.page file held c.remove-touched.ensures.sets (sym c.live.ensures ∙ c.if-live-eq0.true) whole in
      let here : plan.name.page ≡ p = c.in_ok-plan.ensures.page in (
        inr (
          room_seen pages p s old r row held (c.requires.outgrown r held.live),
          inl here,
          subst (λ (q : ℕ). Moves pages (after plan.changes.list.items pages) p s q plan.name.slot row) (sym here) moves,
        ),
        λ e. absurd {A = plan.changes.list.items ≡ []} (c.requires.other r held.live (ap (λ (k : Row). k.value) e)),
      );
  short = search rules;
  few = search rules;
  seen = search rules;
  there = λ p none before. c.in_ok-plan.ensures.others p (off_hand (g.V.Pages.at_hand c.args.views.now) p c.args.name.page c.args.old.now none c.requires.there);
}

pub returns-then-eq : goal.returns-then-eq
returns-then-eq g c = record {
  replacement = λ pages r agrees file named is.
      let p = c.args.name.page in
      let s = c.args.name.slot in
      let held = is_held (g.V.Pages.at_hand c.args.views.now) pages p s c.args.old.now r agrees file is c.requires.there in
      let row : Row = record r { value = c.args.value.now } in
      let over = room_seen pages p s c.args.old.now r row held (c.requires.outgrown r held.live) in
      let own : c.args.room ≡ Some p = named_is _ c.args.room p (λ a b. refl) (sym c.eq.ensures ∙ c.if-eq.true) in
      (over, subst (λ (room : Option ℕ). IsTooFull room (g.V.Pages.total c.args.views.now) pages (row_length row)) (sym own) (own_full (g.V.Pages.total c.args.views.now) pages p r row over));
  short = search rules;
  few = search rules;
  seen = search rules;
  there = search rules;
}

pub returns : goal.returns
returns g c = record {
  replacement = IfOk-weaker c.put.result _ _ (λ step put. λ pages r agrees file named is.
      let at_hand = g.V.Pages.at_hand c.args.views.now in
      let total = g.V.Pages.total c.args.views.now in
      let p = c.args.name.page in
      let s = c.args.name.slot in
      let old = c.args.old.now in
      let new = c.remove-touched.new.page in
      let before = c.note.new.self.list.items in
      let held = is_held at_hand pages p s old r agrees file is c.requires.there in
      let row : Row = record r { value = c.args.value.now } in
      let over = room_seen pages p s old r row held (c.requires.outgrown r held.live) in
      let other : c.args.room ≢ Some p = named_is_not _ c.args.room p (λ a b. refl) (sym c.eq.ensures ∙ c.if-eq.false) in
      let made : after before pages ≡ replaced p new pages = noted_first c.args.changes.list.items before pages p old new c.requires.none (c.in_ok-note.ensures.noted pages) held.seen in
      let ready = ready_mid at_hand c.args.room pages (after before pages) p s old new r agrees file named held c.remove-touched.ensures.shaped other made in
      let drops = drops_one pages (after before pages) p s old new r file held c.remove-touched.ensures.shaped c.remove-touched.ensures.sets (λ z. c.if-live-eq0.false (c.live.ensures ∙ z)) made in
      let same : r ≡ record { relation = c.in-Some.row.relation; key = c.in-Some.row.key.now; value = c.in-Some.row.value.now } = same_row pages p s old r _ held c.in-Some.ensures.found in
      let put_row = subst (λ (k : Row). IsPut at_hand c.args.room total before pages k step) (sym (ap (λ (k : Row). record k { value = c.args.value.now }) same)) (put pages ready) in
      let zero = records_not_map pages p file held.records in
      let stays : (q : ℕ) → q ≢ p → after before pages q ≡ pages q = λ q ne. ap (λ (f : PageBytes). f q) made ∙ replaced_other p q new pages ne in
      moves_on at_hand c.args.room total before pages p s r row step drops over (λ e. c.requires.other r held.live (ap (λ (k : Row). k.value) e))
      (stays 0 (λ e. zero (sym e))) (λ h named_h. stays h (λ e. other (named_h ∙ ap Some e))) put_row)
      c.put.ensures.put;
  short = IfOk-weaker c.put.result _ _ (λ step short. λ pages r agrees file named is.
      let at_hand = g.V.Pages.at_hand c.args.views.now in
      let p = c.args.name.page in
      let s = c.args.name.slot in
      let old = c.args.old.now in
      let new = c.remove-touched.new.page in
      let before = c.note.new.self.list.items in
      let held = is_held at_hand pages p s old r agrees file is c.requires.there in
      let other : c.args.room ≢ Some p = named_is_not _ c.args.room p (λ a b. refl) (sym c.eq.ensures ∙ c.if-eq.false) in
      let made : after before pages ≡ replaced p new pages = noted_first c.args.changes.list.items before pages p old new c.requires.none (c.in_ok-note.ensures.noted pages) held.seen in
      let ready = ready_mid at_hand c.args.room pages (after before pages) p s old new r agrees file named held c.remove-touched.ensures.shaped other made in
      let apart : (q : ℕ) → IsUntouched c.args.changes.list.items q = λ q. subst (λ (cs : List PageChange). IsUntouched cs q) (sym c.requires.none) tt in
      let none : AreShort c.args.changes.list.items pages = subst (λ (cs : List PageChange). AreShort cs pages) (sym c.requires.none) tt in
      short pages ready (apart_mid c.args.room before pages p s old new r file held other made (c.in_ok-note.ensures.short pages held.seen (apart p) none)
      (λ q ne. c.in_ok-note.ensures.others q ne (apart q))))
      c.put.ensures.short;
  few = search rules;
  seen = search rules;
  there = IfOk-weaker c.put.result _ _ (λ step seen. done_weaker step _ _ (λ plan there p none before.
      there p none (c.in_ok-note.ensures.others p (off_hand (g.V.Pages.at_hand c.args.views.now) p c.args.name.page c.args.old.now none c.requires.there) (none_touched c.args.changes.list.items p c.requires.none))) seen)
      c.put.ensures.there;
}
