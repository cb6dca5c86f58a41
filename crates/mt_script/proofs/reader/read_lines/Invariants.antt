use Rattle.std.proofs.Common.{◌≡◌, ℕ, List, Some, ◌++◌}
use Rattle.mt_script.specs.Grammars.{Gathered}
use Rattle.mt_script.proofs.reader.read_lines.Given as goal

abbrev pub invariant-loop : goal.invariant-loop
invariant-loop g l = (bytes : List ℕ) → g.R.Read.remaining l.initial.reader ≡ Some bytes → (front : List ℕ) × (rest : List ℕ) × (g.R.Read.remaining l.reader ≡ Some rest) × (bytes ≡ front ++ rest) × Gathered g.G.Grammar.text g.G.Grammar.IsIn front l.reading.lines.items l.reading.line.items
