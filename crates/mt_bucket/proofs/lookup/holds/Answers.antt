-- Relation, length, the last byte, and all of them.
use Rattle.std.proofs.Common.{ℕ, ◌<◌, List, length, sym, ap, ◌∙◌, arith, bytes_eq}
use Rattle.std.proofs.lemmas.Bool.Decides.{nat_tests}
use Rattle.mt_bucket.proofs.Cells.{other_last, other_length, same_text}
use Rattle.mt_bucket.proofs.lookup.holds.Goals as goal

pub returns-then-from-key : goal.returns-then-from-key
returns-then-from-key c = sym (other_length c.args.page.now c.args.key.now c.args.at c.args.relation c.requires.whole c.requires.within c.requires.short (λ e. absurd (omega arith)))

pub returns : goal.returns
returns c = c.eq.ensures ∙ ap (λ (x : List ℕ). bytes_eq x c.args.key.now) c.part_of.ensures
    ∙ sym (same_text c.args.page.now c.args.key.now c.args.at c.args.relation c.requires.short (omega arith) (omega arith))

pub returns-then-page-at : goal.returns-then-page-at
returns-then-page-at c =
    let some : 0 < length c.args.key.now = grind (arith, nat_tests) in
    sym (other_last c.args.page.now c.args.key.now c.args.at c.args.relation c.requires.short (omega arith) (omega arith) some (λ e. absurd (c.if-page-at.true e)))
