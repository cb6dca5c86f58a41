use Rattle.std.proofs.Common.{ℕ, ◌≤◌}
use Rattle.mt_locked.specs.Whole.{HasNumber}
use Rattle.mt_locked.proofs.returned_passes.are_all.Given as goal

abbrev pub invariant-numbers : goal.invariant-numbers
invariant-numbers g l = (n : ℕ) → 1 ≤ n → n ≤ l.before → HasNumber n l.passes
