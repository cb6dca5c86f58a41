use Rattle.std.proofs.Common.{ℕ, List}
use Rattle.mt_script.specs.Lines.{SpellsRow}
use Rattle.mt_script.proofs.LineLemmas.{no_update}
use Rattle.mt_script.proofs.lines.update_of.Goals as goal

pub returns-in_default : goal.returns-in_default
returns-in_default c = let none : (r : ℕ) (k v : List ℕ) → SpellsRow c.args.words.now r k v → ⊥ = rw c.in_default.is at c.in_ok-relation.ensures in no_update c.args.words.now none
