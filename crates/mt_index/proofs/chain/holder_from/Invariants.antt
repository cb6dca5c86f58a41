-- The pages passed lack the key.
use Rattle.std.proofs.Common.{ℕ, ◌≤◌}
use Rattle.mt_index.specs.Answers.{InMaps, Lacks}
use Rattle.mt_index.specs.Pages.{Passed}
use Rattle.mt_index.proofs.chain.holder_from.Given as goal

abbrev pub invariant-loop-step : goal.invariant-loop-step
invariant-loop-step g l = InMaps (g.V.Pages.at_hand l.views) (g.V.Pages.total l.views) (λ pages m.
    (steps : ℕ) × (l._step ≤ steps) × Passed (Lacks l.relation l.key pages) pages l.key l.at steps)
