use Rattle.std.proofs.Common.{◌≡◌, ◌-◌, ap₂, subst, ◌∙◌, arith, ℕ, List}
use Rattle.mt_slots.specs.Page.{size, offset}
use Rattle.mt_base.specs.Ranges.{part, Wrote}
use Rattle.mt_slots.proofs.Compacting.{movable, packed_step}
use Rattle.mt_slots.proofs.compaction.move_up.Goals as goal

pub overflow_sub-to : goal.overflow_sub-to
overflow_sub-to c =
    let m = movable c.args.copy.now c.args.page.now c.args.i c.args.top c.requires.shaped c.requires.packed c.requires.there c.requires.live in
    let low = m.low in
    omega arith

pub part_of-requires : goal.part_of-requires
part_of-requires c =
    let m = movable c.args.copy.now c.args.page.now c.args.i c.args.top c.requires.shaped c.requires.packed c.requires.there c.requires.live in
    let ins = m.inside in
    let len = c.requires.shaped.length in
    omega arith

pub returns : goal.returns
returns c =
    let copy = c.args.copy.now in
    let m = movable copy c.args.page.now c.args.i c.args.top c.requires.shaped c.requires.packed c.requires.there c.requires.live in
    let low = m.low in
    let s = c.size_of-bytes.ensures.is in
    let text : c.part_of.result.now ≡ part copy (offset copy c.args.i) (size copy c.args.i) = c.part_of.ensures ∙ ap₂ (part copy) c.offset_of.ensures.is s in
    packed_step copy c.args.page.now c.put.new.page c.put_u16.new.page c.args.i c.args.top (c.args.top - c.size_of-bytes.result) c.requires.shaped.length c.requires.packed c.requires.there c.requires.live m
    (omega arith) (subst (λ (t : List ℕ). Wrote (c.args.top - c.size_of-bytes.result) t c.args.page.now c.put.new.page) text c.put.ensures) c.put_u16.ensures.number c.put_u16.ensures.rest
