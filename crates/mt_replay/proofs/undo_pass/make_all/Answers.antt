use mathlib.Core.Logic.{∥∥₁_elim}
use Rattle.std.proofs.Common.{◌≡◌, ◌∙◌, ◌+◌, ◌<◌, ◌≤◌, [], ℕ, List, All, length, get_or, ap, sym, subst}
use Rattle.std.proofs.Props.{props}
use Rattle.std.proofs.lemmas.List.{take_all}
use Rattle.mt_base.specs.Edits.{patched}
use Rattle.mt_base.specs.declared.edits.Edit.{Edit}
use Rattle.mt_space.specs.declared.changes.PageChange.{PageChange}
use Rattle.mt_replay.specs.Memory.{Makes, Sets}
use Rattle.mt_replay.proofs.Making.{first_short, inside_at, makes_none, makes_then}
use Rattle.mt_replay.proofs.undo_pass.make_all.Goals as goal

pub loop-change-init : goal.loop-change-init
loop-change-init c = makes_none c.args.pages.now.items c.requires.whole

pub patch_one-requires-clause-inside : goal.patch_one-requires-clause-inside
patch_one-requires-clause-inside c =
    let cs = c.args.changes.now.list.items in
    let i = c.loop-change.change-index in
    let item = c.change-item.result in
    let e : c.deref-change-items.result.now ≡ cs = c.deref-change-items.ensures.value in
    let lt : i < length cs = subst (λ (xs : List PageChange). i < length xs) e c.loop-change-test.true in
    let is : item ≡ get_or cs i item = c.change-item.is ∙ ap (λ (xs : List PageChange). get_or xs i item) e in
    subst (λ (n : ℕ). item.page < n) (sym c.loop-change.invariant.count) (inside_at (length c.args.pages.now.items) cs i item lt is c.requires.inside)

pub patch_one-requires-clause-fits : goal.patch_one-requires-clause-fits
patch_one-requires-clause-fits c = ∥∥₁_elim c.requires.short (hlevel props) (λ (f, first, short).
    let cs = c.args.changes.now.list.items in
    let i = c.loop-change.change-index in
    let item = c.change-item.result in
    let e : c.deref-change-items.result.now ≡ cs = c.deref-change-items.ensures.value in
    let lt : i < length cs = subst (λ (xs : List PageChange). i < length xs) e c.loop-change-test.true in
    let is : item ≡ get_or cs i item = c.change-item.is ∙ ap (λ (xs : List PageChange). get_or xs i item) e in
    subst (All (λ (d : Edit). d.start + length d.bytes ≤ 4096)) (sym c.as_slice.ensures.value)
    (first_short c.args.pages.now.items cs i item f c.requires.whole lt is (inside_at (length c.args.pages.now.items) cs i item lt is c.requires.inside) first short))

pub loop-change-preserved : goal.loop-change-preserved
loop-change-preserved c =
    let cs = c.args.changes.now.list.items in
    let i = c.loop-change.change-index in
    let item = c.change-item.result in
    let mid = c.loop-change.pages.items in
    let e : c.deref-change-items.result.now ≡ cs = c.deref-change-items.ensures.value in
    let lt : i < length cs = subst (λ (xs : List PageChange). i < length xs) e c.loop-change-test.true in
    let is : item ≡ get_or cs i item = c.change-item.is ∙ ap (λ (xs : List PageChange). get_or xs i item) e in
    let edits : c.as_slice.result.now ≡ item.edits.items = c.as_slice.ensures.value in
    makes_then cs i item c.args.pages.now.items mid c.patch_one.new.pages.items lt is (inside_at (length c.args.pages.now.items) cs i item lt is c.requires.inside) c.loop-change.invariant
    (subst (λ (es : List Edit). Sets mid c.patch_one.new.pages.items item.page (patched es (get_or mid item.page []))) edits c.patch_one.ensures)

pub returns : goal.returns
returns c =
    let cs = c.args.changes.now.list.items in
    let e : c.deref-change-items.result.now ≡ cs = c.deref-change-items.ensures.value in
    subst (λ (ds : List PageChange). Makes ds c.args.pages.now.items c.loop-change.pages.items) (take_all c.loop-change.change-index cs (subst (λ (xs : List PageChange). length xs ≤ c.loop-change.change-index) e c.loop-change-test.false)) c.loop-change.invariant
