use Rattle.std.proofs.Common.{◌≡◌, ◌+◌, ◌*◌, ◌++◌, ◌∷◌, [], ℕ, suc, List, not, filter, length, ap, sym, subst, ◌∙◌, arith}
use Rattle.mt_base.specs.Ranges.{Torn}
use Rattle.mt_base.proofs.Places.{part_length}
use Rattle.mt_bucket.specs.Entries.{Entry}
use Rattle.mt_bucket.specs.Page.{cell, entry_of, entries, entries_from, count_of, goes_over, IsCell, IsBucket}
use Rattle.mt_bucket.specs.Steps.{Dealt, Sorted}
use Rattle.mt_bucket.proofs.Lists.{entries_push}
use Rattle.mt_bucket.proofs.Moves.{dealt_none, dealt_more}
use Rattle.mt_bucket.proofs.Kept.{emptied, cell_taken}
use Rattle.mt_bucket.proofs.entry_changes.partition.Goals as goal

pub loop-i-init : goal.loop-i-init
loop-i-init c =
    let torn = subst (λ (p : List ℕ). Torn 2 2 p c.set_count.new.page) (sym c.copy_from_slice.ensures.after) c.set_count.ensures.rest in
    let dealt = dealt_none (goes_over c.args.bit) c.copy_from_slice.new.self c.set_count.new.page c.args.to.now c.copy_from_slice.ensures.len torn c.set_count.ensures.number in
    (dealt, (λ r p. emptied r p c.copy_from_slice.new.self c.set_count.new.page dealt.head c.set_count.ensures.number, λ r p is to_is. to_is))

pub sort_cell-requires-clause-cell : goal.sort_cell-requires-clause-cell
sort_cell-requires-clause-cell c =
    let len = c.copy_from_slice.ensures.len in
    let lt = c.loop-i-test.true in
    let is = c.count-i-end.ensures in
    let text = ap length c.part_of-bytes.ensures in
    let long = (part_length c.copy_from_slice.new.self (8 + 70 * c.loop-i.i) 70 (omega arith)).0 in
    omega arith

pub loop-i-preserved : goal.loop-i-preserved
loop-i-preserved c =
    let copy = c.copy_from_slice.new.self in
    let i = c.loop-i.i in
    let len = c.copy_from_slice.ensures.len in
    let lt = c.loop-i-test.true in
    let is_end = c.count-i-end.ensures in
    let text : entry_of c.part_of-bytes.result.now ≡ entry_of (cell copy (8 + 70 * i)) = ap entry_of c.part_of-bytes.ensures in
    let sorted = subst (λ (e : Entry). Sorted (goes_over c.args.bit e) e c.loop-i.page c.sort_cell.new.page c.loop-i.to c.sort_cell.new.to) text c.sort_cell.ensures.sorted in
    let all : entries_from copy 8 (i + 1) ≡ entries_from copy 8 i ++ entry_of (cell copy (8 + 70 * i)) ∷ [] =
    ap (entries_from copy 8) (let e : i + 1 ≡ suc i = omega arith in e) ∙ entries_push copy 8 i in
    let right : (r p : ℕ) → IsBucket r p copy → IsCell r p c.part_of-bytes.result.now 0 = λ r p is. cell_taken r p copy c.part_of-bytes.result.now (8 + 70 * i) (omega arith) c.part_of-bytes.ensures (is.each i (omega arith)) in (
      subst (λ (es : List Entry). Dealt (goes_over c.args.bit) es (i + 1) copy c.sort_cell.new.page c.args.to.now c.sort_cell.new.to) (sym all)
          (dealt_more (goes_over c.args.bit) (entries_from copy 8 i) i (entry_of (cell copy (8 + 70 * i))) copy c.loop-i.page c.sort_cell.new.page c.args.to.now c.loop-i.to c.sort_cell.new.to c.loop-i.invariant.0 sorted),
      (
        λ r p is. c.sort_cell.ensures.kept r p (right r p is) (c.loop-i.invariant.1.0 r p is),
        λ r p is to_is. c.sort_cell.ensures.to_kept r p (right r p is) (c.loop-i.invariant.1.1 r p is to_is),
      ),
    )

pub returns-clause-stay : goal.returns-clause-stay
returns-clause-stay c =
    let is = c.count-i-end.ensures in
    let last = c.loop-i.auto.i-end in
    let all : entries_from c.copy_from_slice.new.self 8 c.loop-i.i ≡ entries c.args.page.now =
    ap (entries_from c.copy_from_slice.new.self 8) (let e : c.loop-i.i ≡ count_of c.copy_from_slice.new.self = omega arith in e) ∙ ap entries c.copy_from_slice.ensures.after in
    c.loop-i.invariant.0.stay ∙ ap (filter (λ (e : Entry). not (goes_over c.args.bit e))) all

pub returns-clause-go : goal.returns-clause-go
returns-clause-go c =
    let is = c.count-i-end.ensures in
    let last = c.loop-i.auto.i-end in
    let all : entries_from c.copy_from_slice.new.self 8 c.loop-i.i ≡ entries c.args.page.now =
    ap (entries_from c.copy_from_slice.new.self 8) (let e : c.loop-i.i ≡ count_of c.copy_from_slice.new.self = omega arith in e) ∙ ap entries c.copy_from_slice.ensures.after in
    c.loop-i.invariant.0.go ∙ ap (λ (es : List Entry). entries c.args.to.now ++ filter (goes_over c.args.bit) es) all

pub returns-clause-kept : goal.returns-clause-kept
returns-clause-kept c = λ r p is. c.loop-i.invariant.1.0 r p (subst (IsBucket r p) (sym c.copy_from_slice.ensures.after) is)

pub returns-clause-to_kept : goal.returns-clause-to_kept
returns-clause-to_kept c = λ r p is to_is. c.loop-i.invariant.1.1 r p (subst (IsBucket r p) (sym c.copy_from_slice.ensures.after) is) to_is
