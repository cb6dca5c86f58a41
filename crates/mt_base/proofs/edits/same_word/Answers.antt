use Rattle.std.proofs.Common.{◌≡◌, sym, ap, ◌∙◌, arith}
use Rattle.std.specs.Int.{w64, to_le_bytes}
use Rattle.std.proofs.lemmas.Bool.Decides.{nat_tests}
use Rattle.mt_base.proofs.Editing.{same_words}
use Rattle.mt_base.proofs.edits.same_word.Goals as goal

pub returns : goal.returns
returns c = λ t.
    let e : c.word_at.result ≡ c.word_at-2.result = grind (arith, nat_tests) in
    same_words c.args.old.now c.args.new.now c.args.at c.requires.old_there c.requires.new_there (sym c.word_at.ensures ∙ ap (to_le_bytes w64) e ∙ c.word_at-2.ensures)
