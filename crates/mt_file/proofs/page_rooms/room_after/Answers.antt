use Rattle.std.proofs.Props.{props}
use mathlib.Core.Logic.{∥∥₁_elim, ∥∥₁_map}
use Rattle.std.proofs.Common.{◌≡◌, ◌≢◌, ◌<◌, ◌≤◌, ◌+◌, ℕ, List, All, length, take, get_or, sym, ap, ◌∙◌, subst, arith, eq-eqb}
use Rattle.std.proofs.lemmas.Bool.{eqb-true}
use Rattle.mt_base.specs.Edits.{patched}
use Rattle.mt_base.specs.declared.edits.Edit.{Edit}
use Rattle.mt_space.specs.declared.changes.PageChange.{PageChange}
use Rattle.mt_space.proofs.Following.{after_here, after_other, edits_within}
use Rattle.std.proofs.lemmas.List.{take_all}
use Rattle.mt_slots.specs.Page.{IsShaped}
use Rattle.mt_space.specs.Changes.{after}
use Rattle.mt_file.proofs.Shaped.{shaped_of}
use Rattle.mt_file.proofs.page_rooms.room_after.Goals as goal
use Rattle.mt_file.proofs.page_rooms.room_after.Goals.{then-eq, else-eq}

pub patch-requires : goal.patch-requires
patch-requires c = ∥∥₁_elim c.requires.pages (hlevel props) (λ (pages, page, short, shaped).
    let same = c.deref-change-items.ensures.value in
    let cs = c.args.changes.now.list.items in
    let d = c.change-item.result in
    let lt = subst (λ (ds : List PageChange). c.loop-change.change-index < length ds) same c.loop-change-test.true in
    let is = c.change-item.is ∙ ap (λ (ds : List PageChange). get_or ds c.loop-change.change-index d) same in
    let here : d.page ≡ c.args.page = eqb-true d.page c.args.page (sym c.eq.ensures ∙ c.if-eq.true) in
    subst (λ (es : List Edit). All (λ (e : Edit). e.start + length e.bytes ≤ 4096) es) (sym c.as_slice.ensures.value)
    (edits_within cs c.loop-change.change-index d pages lt is short (ap (λ (p : ℕ). length (pages p)) here ∙ ap (λ (bytes : List ℕ). length bytes) page ∙ c.requires.whole)))

pub loop-change-preserved : goal.loop-change-preserved
loop-change-preserved c =
    let same = c.deref-change-items.ensures.value in
    let cs = c.args.changes.now.list.items in
    let d = c.change-item.result in
    let i = c.loop-change.change-index in
    let lt = subst (λ (ds : List PageChange). i < length ds) same c.loop-change-test.true in
    let is = c.change-item.is ∙ ap (λ (ds : List PageChange). get_or ds i d) same in
    let before = c.loop-change.invariant in
    elim c.if-eq.branch [
      | then-eq w ↦
          let here : c.args.page ≡ d.page = sym (eqb-true d.page c.args.page (sym c.eq.ensures ∙ w.if-eq.true)) in
          record {
            whole = ap (λ (bytes : List ℕ). length bytes) w.bytes-is ∙ w.patch.ensures.size;
            bytes = λ pages page short. w.bytes-is ∙ w.patch.ensures.made ∙ (λ j. patched (w.as_slice.ensures.value j) (before.bytes pages page short j)) ∙ sym (after_here cs i d pages lt is c.args.page here);
          }
      | else-eq w ↦
          let other : c.args.page ≢ d.page = λ e. let yes = eq-eqb d.page c.args.page (sym e) in let no = sym c.eq.ensures ∙ w.if-eq.false in let never = sym yes ∙ no in cc in
          record {
            whole = ap (λ (bytes : List ℕ). length bytes) w.bytes-is ∙ before.whole;
            bytes = λ pages page short. w.bytes-is ∙ before.bytes pages page short ∙ sym (after_other cs i d pages lt is c.args.page other);
          }
    ]

pub fits-requires : goal.fits-requires
fits-requires c = shaped_of c.loop-change.bytes (∥∥₁_map c.requires.pages (λ (pages, page, short, shaped).
    let list = c.args.changes.now.list.items in let value = c.deref-change-items.ensures.value in let long = ap length value in
    let all : take c.loop-change.change-index list ≡ list = take_all c.loop-change.change-index list (let past = c.loop-change-test.false in omega (arith, long, past)) in
    let kind = ap (λ (p : ℕ). get_or c.args.map.now p 0) (sym (c.from.ensures ∙ c.get.ensures)) ∙ c.if-map-from-ne-RECORDS.false in
    subst IsShaped (sym (c.loop-change.invariant.bytes pages page short ∙ ap (λ (cs : List PageChange). after cs pages c.args.page) all)) (shaped kind)))
