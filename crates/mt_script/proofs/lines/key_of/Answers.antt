use Rattle.std.proofs.Common.{◌≢◌, ℕ}
use Rattle.std.specs.Fmt.{decimal}
use Rattle.mt_script.specs.Lines.{IsPlace, IsWord}
use Rattle.mt_script.proofs.LineLemmas.{key_spaced, key_cut, lacks}
use Rattle.mt_script.proofs.lines.key_of.Goals as goal

pub returns-in_default : goal.returns-in_default
returns-in_default c = λ r k s. key_spaced c.args.words.now r k c.in_default.ensures.none s

pub returns-in_default-2 : goal.returns-in_default-2
returns-in_default-2 c = λ r k s.
    let none : (n : ℕ) → IsPlace n → c.in-Some.number.now ≢ decimal n = rw c.in_default-2.is at c.in_ok-relation.ensures in
    let cut = key_cut c.args.words.now c.in-Some.number.now c.in-Some.word.now r k c.in-Some.ensures.found.0 c.in-Some.ensures.found.1 s in
    none r s.1 cut.0

pub returns-then-not-is_word : goal.returns-then-not-is_word
returns-then-not-is_word c = λ r k s.
    let cut = key_cut c.args.words.now c.in-Some.number.now c.in-Some.word.now r k c.in-Some.ensures.found.0 c.in-Some.ensures.found.1 s in
    lacks IsWord c.in-Some.word.now k c.is_word.result c.is_word.ensures c.if-not-is_word.true cut.1 s.2
