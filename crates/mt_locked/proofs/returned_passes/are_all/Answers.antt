use Rattle.std.proofs.Common.{◌+◌, arith, refl}
use Rattle.mt_locked.proofs.Counts.{next_number}
use Rattle.mt_locked.proofs.returned_passes.are_all.Goals as goal

pub numbers-preserved : goal.numbers-preserved
numbers-preserved g c = next_number c.numbers.before c.args.passes.now (c.if-not-has_number.ensures.0 refl) c.numbers.invariant

pub returns-then-not-has_number : goal.returns-then-not-has_number
returns-then-not-has_number g c =
    (λ is. absurd (cc), λ all. c.if-not-has_number.ensures.1 (all.each (c.numbers.before + 1) (omega arith) (let less = c.numbers-test.true in let long = c.if-len-count.false in omega arith)))

pub returns : goal.returns
returns g c = (λ _. record { long = c.if-len-count.false; each = λ n low high. c.numbers.invariant n low (let all = c.numbers-test.false in let long = c.if-len-count.false in omega arith) }, λ _. refl)
