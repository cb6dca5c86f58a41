use Rattle.std.proofs.Common.{arith, ◌≡◌, ◌≢◌, ◌-◌, ◌<◌, ◌^◌, ◌∷◌, ℕ, length, get_or, take, drop, subst}
use Rattle.std.specs.Fmt.{decimal}
use Rattle.std.proofs.lemmas.Grind.{common_steps}
use Rattle.mt_script.specs.Lines.{SpellsStep}
use Rattle.mt_script.proofs.LineLemmas.{minus_first, no_size, wide_step}
use Rattle.mt_script.proofs.lines.signed_of.Goals as goal
use Rattle.mt_script.proofs.lines.signed_of.Goals.{in_default-via-then-word-lt1, in_default-via-else-word-lt1+in_default-1}

pub returns-in-None : goal.returns-in-None
returns-in-None c = λ z s.
    let word = c.args.word.now in
    let size = take (length word - 1) (drop 1 word) in
    let is : word ≡ 45 ∷ size = minus_first word (omega arith) (omega arith) in
    let none : (n : ℕ) → n < 2 ^ 64 → size ≢ decimal n = rw c.in-None.is at c.in_ok-number-in-45.ensures in
    no_size size z none (subst (λ w. SpellsStep w z) is s)

pub returns-in-Some-2 : goal.returns-in-Some-2
returns-in-Some-2 c =
    let word = c.args.word.now in
    let number = c.in-Some-2.number in
    let other : get_or word 0 0 ≢ 45 = elim c.in_default.branch [ in_default-via-then-word-lt1 w ↦ grind (arith, common_steps) | in_default-via-else-word-lt1+in_default-1 w ↦ omega arith ] in
    let is : word ≡ decimal number = rw c.in-Some-2.is at c.in_ok-number-in_default.ensures in
    wide_step word number c.ok.result c.try_from.result other (omega arith) is c.try_from.ensures c.ok.ensures.value
