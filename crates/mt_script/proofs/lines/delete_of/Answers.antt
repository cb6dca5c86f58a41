use Rattle.std.proofs.Common.{ℕ, List}
use Rattle.mt_script.specs.Lines.{SpellsKey}
use Rattle.mt_script.proofs.LineLemmas.{no_delete}
use Rattle.mt_script.proofs.lines.delete_of.Goals as goal

pub returns-in_default : goal.returns-in_default
returns-in_default c = let none : (r : ℕ) (k : List ℕ) → SpellsKey c.args.words.now r k → ⊥ = rw c.in_default.is at c.in_ok-relation.ensures in no_delete c.args.words.now none
