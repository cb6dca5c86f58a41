use Rattle.std.proofs.Common.{rules, ◌+◌, ◌*◌, ℕ, sym, subst, arith}
use Rattle.std.proofs.lemmas.Bool.{MatchBool-at_false}
use Rattle.mt_slots.specs.Parts.{IsGood}
use Rattle.mt_slots.proofs.Checked.{good_page, page_good}
use Rattle.mt_slots.proofs.page_rules.check.Goals as goal

pub returns-then-not-is_good : goal.returns-then-not-is_good
returns-then-not-is_good c = λ page.
    let is = c.slot_count-slots.ensures.is in
    let good = subst (λ (n : ℕ). IsGood c.args.relations c.args.longest c.args.page.now (8 + 4 * n) c.loop-i.i) (sym is) (page_good c.args.relations c.args.longest c.args.page.now page c.loop-i.i (omega arith)) in
    MatchBool-at_false (IsGood c.args.relations c.args.longest c.args.page.now (8 + 4 * c.slot_count-slots.result) c.loop-i.i) (IsGood c.args.relations c.args.longest c.args.page.now (8 + 4 * c.slot_count-slots.result) c.loop-i.i → ⊥) (search rules) c.is_good.ensures good

pub returns : goal.returns
returns c =
    let is = c.slot_count-slots.ensures.is in
    good_page c.args.relations c.args.longest c.args.page.now c.requires.whole (search rules) (omega arith) (λ i lt. c.loop-i.invariant.each i (omega arith)) (λ i lt. c.loop-i.invariant.apart i (omega arith)) (search rules)
