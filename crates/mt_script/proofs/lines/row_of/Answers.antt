use Rattle.std.proofs.Common.{◌≢◌, ℕ}
use Rattle.std.specs.Fmt.{decimal}
use Rattle.mt_script.specs.Lines.{IsPlace, IsWord, IsText}
use Rattle.mt_script.proofs.LineLemmas.{row_spaced, row_unspaced, row_cut_twice, lacks}
use Rattle.mt_script.proofs.lines.row_of.Goals as goal
use Rattle.mt_script.proofs.lines.row_of.Goals.{then-not-is_word-via-then-not-is_word, then-not-is_word-via-else-not-is_word+then-not-is_text}

pub returns-in_default : goal.returns-in_default
returns-in_default c = λ r k v s. row_spaced c.args.words.now r k v c.in_default.ensures.none s

pub returns-in_default-split_at_space : goal.returns-in_default-split_at_space
returns-in_default-split_at_space c = λ r k v s.
    row_unspaced c.args.words.now c.in-Some.number.now c.in-Some.rest.now r k v c.in-Some.ensures.found.0 c.in-Some.ensures.found.1 c.in_default-split_at_space.ensures.none s

pub returns-in_default-2 : goal.returns-in_default-2
returns-in_default-2 c = λ r k v s.
    let none : (n : ℕ) → IsPlace n → c.in-Some.number.now ≢ decimal n = rw c.in_default-2.is at c.in_ok-relation.ensures in
    let first = c.in-Some.ensures.found in
    let second = c.in-Some-split_at_space.ensures.found in
    let cut = row_cut_twice c.args.words.now c.in-Some.number.now c.in-Some.rest.now c.in-Some-split_at_space.word.now c.in-Some-split_at_space.text.now r k v first.0 first.1 second.0 second.1 s in
    none r s.1 cut.0

pub returns-then-not-is_word : goal.returns-then-not-is_word
returns-then-not-is_word c = λ r k v s.
    let first = c.in-Some.ensures.found in
    let second = c.in-Some-split_at_space.ensures.found in
    let cut = row_cut_twice c.args.words.now c.in-Some.number.now c.in-Some.rest.now c.in-Some-split_at_space.word.now c.in-Some-split_at_space.text.now r k v first.0 first.1 second.0 second.1 s in
    elim c.then-not-is_word.branch [
      | then-not-is_word-via-then-not-is_word w ↦ lacks IsWord c.in-Some-split_at_space.word.now k c.is_word.result c.is_word.ensures w.if-not-is_word.true cut.1 s.2
      | then-not-is_word-via-else-not-is_word+then-not-is_text w ↦ lacks IsText c.in-Some-split_at_space.text.now v w.is_text.result w.is_text.ensures w.if-not-is_text.true cut.2 s.3
    ]
