use mathlib.Core.Logic.{∥∥₁_elim, ∥∥₁_map}
use Rattle.std.proofs.Common.{rules, ◌≡◌, ℕ, inr, refl, sym, ap, ◌∙◌}
use Rattle.std.proofs.Props.{props}
use Rattle.mt_space.proofs.Changing.{off_hand, none_touched}
use Rattle.mt_space.specs.Changes.{after, replaced}
use Rattle.mt_file.proofs.Planned.{is_held, noted_first, drops_one, none_beside, gives_back}
use Rattle.mt_file.proofs.Shaped.{shaped_of}
use Rattle.mt_file.proofs.removal.plan_remove.Goals as goal

pub remove-touched-requires-clause-shaped : goal.remove-touched-requires-clause-shaped
remove-touched-requires-clause-shaped g c = shaped_of c.in-Some.old.now (∥∥₁_map c.requires.good (λ good.
    (is_held (g.V.Pages.at_hand c.args.views.now) good.0 c.args.name.page c.args.name.slot c.in-Some.old.now good.1 good.2 good.3 good.4 c.in-Some.ensures.some).shaped))

pub remove-touched-requires-clause-there : goal.remove-touched-requires-clause-there
remove-touched-requires-clause-there g c = ∥∥₁_elim c.requires.good (hlevel props) (λ good.
    (is_held (g.V.Pages.at_hand c.args.views.now) good.0 c.args.name.page c.args.name.slot c.in-Some.old.now good.1 good.2 good.3 good.4 c.in-Some.ensures.some).there)

pub with_kind-new_map-requires : goal.with_kind-new_map-requires
with_kind-new_map-requires g c = ∥∥₁_elim c.requires.good (hlevel props) (λ good.
    (is_held (g.V.Pages.at_hand c.args.views.now) good.0 c.args.name.page c.args.name.slot c.in-Some.old.now good.1 good.2 good.3 good.4 c.in-Some.ensures.some).within)

pub kind_byte-requires : goal.kind_byte-requires
kind_byte-requires g c = ∥∥₁_elim c.requires.good (hlevel props) (λ good.
    (is_held (g.V.Pages.at_hand c.args.views.now) good.0 c.args.name.page c.args.name.slot c.in-Some.old.now good.1 good.2 good.3 good.4 c.in-Some.ensures.some).within)

pub note-requires-2-clause-touched : goal.note-requires-2-clause-touched
note-requires-2-clause-touched g c =
    c.kind_byte.ensures c.in-Some-page.map.now c.with_kind-new_map.result (search rules) c.with_kind-new_map.ensures.whole c.with_kind-new_map.ensures.others

pub returns-then-live-ne0-clause-removal : goal.returns-then-live-ne0-clause-removal
returns-then-live-ne0-clause-removal g c = λ pages r agrees file is.
    let p = c.args.name.page in
    let s = c.args.name.slot in
    let held = is_held (g.V.Pages.at_hand c.args.views.now) pages p s c.in-Some.old.now r agrees file is c.in-Some.ensures.some in
    let made = noted_first c.new-changes.result.list.items c.note.new.self.list.items pages p c.in-Some.old.now c.remove-touched.new.page c.new-changes.ensures (c.in_ok-note.ensures.noted pages) held.seen in (
      drops_one pages (after c.note.new.self.list.items pages) p s c.in-Some.old.now c.remove-touched.new.page r file held c.remove-touched.ensures.shaped c.remove-touched.ensures.sets
          (λ z. c.if-live-ne0.true (c.live.ensures ∙ z)) made,
      refl,
      refl,
    )

pub returns-in_default-page-clause-removal : goal.returns-in_default-page-clause-removal
returns-in_default-page-clause-removal g c = λ pages r agrees file is.
    let p = c.args.name.page in
    let s = c.args.name.slot in
    let held = is_held (g.V.Pages.at_hand c.args.views.now) pages p s c.in-Some.old.now r agrees file is c.in-Some.ensures.some in (
      c.in_default-page.ensures.none,
      inr (c.new-map_page.ensures, none_beside pages p s c.in-Some.old.now c.remove-touched.new.page r held c.remove-touched.ensures.sets (sym c.live.ensures ∙ c.if-live-ne0.false)),
    )

pub returns-clause-removal : goal.returns-clause-removal
returns-clause-removal g c = λ pages r agrees file is.
    let p = c.args.name.page in
    let s = c.args.name.slot in
    let map = c.in-Some-page.map.now in
    let new_map = c.with_kind-new_map.result in
    let zero : c.new-map_page.result ≡ 0 = c.new-map_page.ensures in
    let held = is_held (g.V.Pages.at_hand c.args.views.now) pages p s c.in-Some.old.now r agrees file is c.in-Some.ensures.some in
    let seen = agrees c.new-map_page.result map c.in-Some-page.ensures.some in
    let made = noted_first c.new-changes.result.list.items c.note-2.new.self.list.items pages c.new-map_page.result map new_map c.new-changes.ensures (c.in_ok-note-2.ensures.noted pages) seen in (
      gives_back pages (after c.note-2.new.self.list.items pages) p s map new_map c.in-Some.old.now c.remove-touched.new.page r file held (sym (ap pages zero) ∙ seen)
          c.with_kind-new_map.ensures.whole c.with_kind-new_map.ensures.here c.with_kind-new_map.ensures.others
          c.remove-touched.ensures.sets (sym c.live.ensures ∙ c.if-live-ne0.false) (made ∙ ap (λ (k : ℕ). replaced k new_map pages) zero),
      refl,
      refl,
    )

pub returns-then-live-ne0-clause-there : goal.returns-then-live-ne0-clause-there
returns-then-live-ne0-clause-there g c = λ p none before.
    c.in_ok-note.ensures.others p (off_hand (g.V.Pages.at_hand c.args.views.now) p c.args.name.page c.in-Some.old.now none c.in-Some.ensures.some) (none_touched c.new-changes.result.list.items p c.new-changes.ensures)

pub returns-clause-there : goal.returns-clause-there
returns-clause-there g c = λ p none before.
    c.in_ok-note-2.ensures.others p (off_hand (g.V.Pages.at_hand c.args.views.now) p c.new-map_page.result c.in-Some-page.map.now none c.in-Some-page.ensures.some) (none_touched c.new-changes.result.list.items p c.new-changes.ensures)
