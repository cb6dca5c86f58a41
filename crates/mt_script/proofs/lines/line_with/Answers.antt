use Rattle.std.proofs.Common.{◌++◌, ◌∷◌}
use Rattle.mt_model.specs.declared.operations.Op.{Op}
use Rattle.mt_script.specs.Lines.{SpellsOp}
use Rattle.mt_script.proofs.LineLemmas.{no_spaced_line, differs}
use Rattle.mt_script.proofs.lines.line_with.Goals as goal

pub returns-in-None : goal.returns-in-None
returns-in-None c =
    let none : (op : Op) → SpellsOp (c.args.word.now ++ 32 ∷ c.args.words.now) op → ⊥ = rw c.in-None.is at c.in_ok-op.ensures in
    no_spaced_line c.args.word.now c.args.words.now c.requires
    (differs _ _ c.is_text_of.result c.is_text_of.ensures c.if-is_text_of.false) none
