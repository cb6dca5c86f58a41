use Rattle.std.proofs.Common.{◌≢◌, ℕ, ℤ}
use Rattle.std.specs.Fmt.{decimal}
use Rattle.mt_script.specs.Lines.{IsPlace, SpellsStep}
use Rattle.mt_script.proofs.LineLemmas.{no_add, add_spaced, add_cut}
use Rattle.mt_script.proofs.lines.add_of.Goals as goal

pub returns-in_default : goal.returns-in_default
returns-in_default c = no_add c.args.words.now (add_spaced c.args.words.now c.in_default.ensures.none)

pub returns-in_default-2 : goal.returns-in_default-2
returns-in_default-2 c =
    let none : (n : ℕ) → IsPlace n → c.in-Some.word.now ≢ decimal n = rw c.in_default-2.is at c.in_ok-counter.ensures in
    no_add c.args.words.now (λ k n e p w.
    let cut = add_cut c.args.words.now c.in-Some.word.now c.in-Some.rest.now c.in-Some.ensures.found.0 c.in-Some.ensures.found.1 k n e p in none k p cut.0)

pub returns-in-None : goal.returns-in-None
returns-in-None c =
    let none : (n : ℤ) → SpellsStep c.in-Some.rest.now n → ⊥ = rw c.in-None.is at c.in_ok-step.ensures in
    no_add c.args.words.now (λ k n e p w.
    let cut = add_cut c.args.words.now c.in-Some.word.now c.in-Some.rest.now c.in-Some.ensures.found.0 c.in-Some.ensures.found.1 k n e p in none n (cut.1, w))
