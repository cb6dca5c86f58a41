use Rattle.std.proofs.Props.{props}
use mathlib.Core.Logic.{∥∥₁_elim}
use Rattle.std.proofs.Common.{◌≡◌, ◌<◌, ◌≤◌, ◌+◌, ℕ, List, All, length, get_or, refl, sym, ap, ◌∙◌, subst}
use Rattle.mt_base.specs.Edits.{patched}
use Rattle.mt_base.specs.declared.edits.Edit.{Edit}
use Rattle.mt_space.specs.declared.changes.PageChange.{PageChange}
use Rattle.mt_space.specs.declared.space_map.SpaceMap.{SpaceMap}
use Rattle.mt_space.proofs.Following.{after_here, after_other, edits_within}
use Rattle.mt_space.proofs.space_map.SpaceMap.follow.Goals as goal
use Rattle.mt_space.proofs.space_map.SpaceMap.follow.Goals.{then-get-eq-MAP, else-get-eq-MAP}

pub patch-requires : goal.patch-requires
patch-requires c = ∥∥₁_elim c.requires.short (hlevel props) (λ (pages, map, short, whole).
    let same = c.deref-change-items.ensures.value in
    let cs = c.args.changes.now.list.items in
    let d = c.change-item.result in
    let lt = subst (λ (ds : List PageChange). c.loop-change.change-index < length ds) same c.loop-change-test.true in
    let is = c.change-item.is ∙ ap (λ (ds : List PageChange). get_or ds c.loop-change.change-index d) same in
    let here : d.page ≡ 0 = sym c.get.ensures ∙ c.if-get-eq-MAP.true in
    subst (λ (es : List Edit). All (λ (e : Edit). e.start + length e.bytes ≤ 4096) es) (sym c.as_slice.ensures.value)
    (edits_within cs c.loop-change.change-index d pages lt is short (ap (λ (p : ℕ). length (pages p)) here ∙ ap (λ (bytes : List ℕ). length bytes) map ∙ whole)))

pub loop-change-init : goal.loop-change-init
loop-change-init c = record {
  whole = ∥∥₁_elim c.requires.short (hlevel props) (λ (pages, map, short, whole). whole);
  kinds = λ pages opened short. sym opened;
  none = λ no_. refl;
  space = refl;
}

pub loop-change-preserved : goal.loop-change-preserved
loop-change-preserved c =
    let same = c.deref-change-items.ensures.value in
    let cs = c.args.changes.now.list.items in
    let d = c.change-item.result in
    let i = c.loop-change.change-index in
    let lt = subst (λ (ds : List PageChange). i < length ds) same c.loop-change-test.true in
    let is = c.change-item.is ∙ ap (λ (ds : List PageChange). get_or ds i d) same in
    let before = c.loop-change.invariant in
    elim c.if-get-eq-MAP.branch [
      | then-get-eq-MAP w ↦
          let here : 0 ≡ d.page = sym w.if-get-eq-MAP.true ∙ c.get.ensures in
          let kinds = ap (λ (m : SpaceMap). m.kinds.value) w.self-is in
          record {
            whole = ap (λ (bytes : List ℕ). length bytes) kinds ∙ w.patch.ensures.size;
            kinds = λ pages opened short. kinds ∙ w.patch.ensures.made ∙ (λ j. patched (w.as_slice.ensures.value j) ((w.deref_mut.ensures.value ∙ before.kinds pages opened short) j)) ∙ sym (after_here cs i d pages lt is 0 here);
            none = λ no_. let yes = w.followed-is in cc;
            space = ap (λ (m : SpaceMap). m.space) w.self-is ∙ before.space;
          }
      | else-get-eq-MAP w ↦
          let other : 0 ≡ d.page → ⊥ = λ e. w.if-get-eq-MAP.false (c.get.ensures ∙ sym e) in
          let kinds = ap (λ (m : SpaceMap). m.kinds.value) w.self-is in
          record {
            whole = ap (λ (bytes : List ℕ). length bytes) kinds ∙ before.whole;
            kinds = λ pages opened short. kinds ∙ before.kinds pages opened short ∙ sym (after_other cs i d pages lt is 0 other);
            none = λ no_. kinds ∙ before.none (sym w.followed-is ∙ no_);
            space = ap (λ (m : SpaceMap). m.space) w.self-is ∙ before.space;
          }
    ]
