use Rattle.std.proofs.Common.{◌≡◌, ℕ, take, map, ◌==◌}
use Rattle.mt_space.proofs.space.note_free.Given as goal

abbrev pub invariant-loop-page : goal.invariant-loop-page
invariant-loop-page l = take l.page l.pages ≡ map (λ (kind : ℕ). kind == 0) (take l.page l.kinds)
