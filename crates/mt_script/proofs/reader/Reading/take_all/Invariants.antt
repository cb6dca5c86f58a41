use Rattle.std.proofs.Common.{◌≡◌, ℕ, List, ◌++◌, length}
use Rattle.mt_script.specs.Grammars.{Gathered}
use Rattle.mt_script.proofs.reader.Reading.take_all.Given as goal

abbrev pub invariant-loop-part : goal.invariant-loop-part
invariant-loop-part g l = (taken : List ℕ) × (l.bytes ≡ taken ++ l.rest) × ((front : List ℕ)
    → Gathered g.G.Grammar.text g.G.Grammar.IsIn front l.initial.self.lines.items l.initial.self.line.items
    → Gathered g.G.Grammar.text g.G.Grammar.IsIn (front ++ taken) l.self.lines.items l.self.line.items)

abbrev pub decreases-loop-part : goal.decreases-loop-part
decreases-loop-part g l = length l.rest
