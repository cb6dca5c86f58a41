use Rattle.std.proofs.Common.{◌≡◌, arith}
use Rattle.std.specs.Fmt.{decimal}
use Rattle.mt_args.proofs.SpellingLemmas.{too_large}
use Rattle.mt_args.proofs.numbers.count_of.Goals as goal

pub returns-in-Some-2 : goal.returns-in-Some-2
returns-in-Some-2 c = λ n s.
    let is : c.args.word.now ≡ decimal c.in-Some.number = rw c.in-Some.is at c.in_ok-number.ensures in
    too_large c.args.word.now c.in-Some.number n is (omega arith) (omega (arith, c.if-number-le-LARGEST.false)) s
