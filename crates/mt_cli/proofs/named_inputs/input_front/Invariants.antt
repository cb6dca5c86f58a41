use Rattle.std.proofs.Common.{◌≡◌, ℕ, List, Some, ◌++◌}
use Rattle.mt_cli.proofs.named_inputs.input_front.Given as goal

abbrev pub invariant-loop : goal.invariant-loop
invariant-loop g l =
    (held : List ℕ) → g.I.Read.remaining l.initial.input ≡ Some held → (rest : List ℕ) × (g.I.Read.remaining l.input ≡ Some rest) × (held ≡ l.bytes.items ++ rest)
