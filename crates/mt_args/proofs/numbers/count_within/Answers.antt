use Rattle.std.proofs.Common.{arith}
use Rattle.mt_args.specs.Spelling.{SpellsCount}
use Rattle.mt_args.proofs.SpellingLemmas.{same_count}
use Rattle.mt_args.proofs.numbers.count_within.Goals as goal

pub returns-in-Some-2 : goal.returns-in-Some-2
returns-in-Some-2 c = λ n s.
    let own : SpellsCount c.args.word.now c.in-Some.number = rw c.in-Some.is at c.in_ok-number.ensures in
    let same = same_count c.args.word.now c.in-Some.number n own s.0 in
    omega (arith, same, s.2, c.if-number-high.false)

pub returns-in-Some-2-2 : goal.returns-in-Some-2-2
returns-in-Some-2-2 c = λ n s.
    let own : SpellsCount c.args.word.now c.in-Some.number = rw c.in-Some.is at c.in_ok-number.ensures in
    let same = same_count c.args.word.now c.in-Some.number n own s.0 in
    omega (arith, same, s.1, c.if-low-number.false)
