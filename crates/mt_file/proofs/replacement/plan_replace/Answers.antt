use mathlib.Core.Logic.{∥∥₁_elim, ∥∥₁_map}
use Rattle.std.proofs.Props.{props}
use Rattle.std.proofs.Common.{[], ◌≡◌, ◌≢◌, ℕ, List, refl, sym, ap, subst, inl}
use Rattle.std.specs.Option.{IsSome}
use Rattle.mt_space.proofs.Changing.{off_hand, none_touched}
use Rattle.mt_space.specs.declared.changes.PageChange.{PageChange}
use Rattle.mt_space.specs.Changes.{after}
use Rattle.mt_slots.specs.Page.{Row}
use Rattle.mt_file.specs.File.{Stays}
use Rattle.mt_file.proofs.Planned.{is_held, noted_first}
use Rattle.mt_file.proofs.Moved.{stays_one, stays_same}
use Rattle.mt_file.proofs.Shaped.{shaped_of}
use Rattle.mt_file.proofs.replacement.plan_replace.Goals as goal

pub has_value-requires : goal.has_value-requires
has_value-requires g c = shaped_of c.in-Some.old.now (∥∥₁_map c.requires.good (λ good.
    (is_held (g.V.Pages.at_hand c.args.views.now) good.0 c.args.name.page c.args.name.slot c.in-Some.old.now good.1 good.2 good.3 good.5 c.in-Some.ensures.some).shaped))

pub replace-requires-clause-shaped : goal.replace-requires-clause-shaped
replace-requires-clause-shaped g c = shaped_of c.in-Some.old.now (∥∥₁_map c.requires.good (λ good.
    (is_held (g.V.Pages.at_hand c.args.views.now) good.0 c.args.name.page c.args.name.slot c.in-Some.old.now good.1 good.2 good.3 good.5 c.in-Some.ensures.some).shaped))

pub replace-requires-clause-live : goal.replace-requires-clause-live
replace-requires-clause-live g c = ∥∥₁_elim c.requires.good (hlevel props) (λ good.
    let held = is_held (g.V.Pages.at_hand c.args.views.now) good.0 c.args.name.page c.args.name.slot c.in-Some.old.now good.1 good.2 good.3 good.5 c.in-Some.ensures.some in
    subst IsSome (sym held.live) refl)

pub returns-then-has_value-clause-replacement : goal.returns-then-has_value-clause-replacement
returns-then-has_value-clause-replacement g c = λ pages r agrees file named is.
    let p = c.args.name.page in
    let s = c.args.name.slot in
    let held = is_held (g.V.Pages.at_hand c.args.views.now) pages p s c.in-Some.old.now r agrees file is c.in-Some.ensures.some in
    let row : Row = record r { value = c.args.value.now } in
    let same : r ≡ row = ap (λ (v : List ℕ). record r { value = v }) (c.if-has_value.ensures.yes r held.live) in (
      inl (refl, refl, subst (λ (cs : List PageChange). Stays pages (after cs pages) p s row) (sym c.new-changes.ensures) (stays_same pages p s r row file is same)),
      λ e. c.new-changes.ensures,
    )

pub returns-in-Some-replace-clause-replacement : goal.returns-in-Some-replace-clause-replacement
returns-in-Some-replace-clause-replacement g c = λ pages r agrees file named is.
    let p = c.args.name.page in
    let s = c.args.name.slot in
    let old = c.in-Some.old.now in
    let new = c.replace.new.page in
    let held = is_held (g.V.Pages.at_hand c.args.views.now) pages p s old r agrees file is c.in-Some.ensures.some in
    let row : Row = record r { value = c.args.value.now } in
    let differ : r ≢ row = λ e. c.if-has_value.ensures.no r held.live (ap (λ (k : Row). k.value) e) in
    let made = noted_first c.new-changes.result.list.items c.note.new.self.list.items pages p old new c.new-changes.ensures (c.in_ok-note.ensures.noted pages) held.seen in (
      inl (refl, refl, stays_one pages (after c.note.new.self.list.items pages) p s old new r row file held c.replace.ensures.shaped (c.in-Some-replace.ensures.done r held.live) made),
      λ e. absurd {A = c.note.new.self.list.items ≡ []} (differ e),
    )

pub returns-then-has_value-clause-there : goal.returns-then-has_value-clause-there
returns-then-has_value-clause-there g c = λ p none before. none_touched c.new-changes.result.list.items p c.new-changes.ensures

pub returns-in-Some-replace-clause-there : goal.returns-in-Some-replace-clause-there
returns-in-Some-replace-clause-there g c = λ p none before.
    c.in_ok-note.ensures.others p (off_hand (g.V.Pages.at_hand c.args.views.now) p c.args.name.page c.in-Some.old.now none c.in-Some.ensures.some) (none_touched c.new-changes.result.list.items p c.new-changes.ensures)
