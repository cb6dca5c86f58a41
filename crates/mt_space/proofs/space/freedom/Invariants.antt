use Rattle.std.proofs.Common.{◌≡◌, ℕ, take, map, ◌==◌}
use Rattle.mt_space.proofs.space.freedom.Given as goal

abbrev pub invariant-loop-kind : goal.invariant-loop-kind
invariant-loop-kind l = l.pages.items ≡ map (λ (kind : ℕ). kind == 0) (take l.kind-index l.kinds)
