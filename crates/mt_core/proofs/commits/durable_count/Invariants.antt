use Rattle.std.proofs.Common.{◌≡◌, ℕ, ◌<◌, false, get_or, nat_lt}
use Rattle.mt_core.specs.declared.parts.Commit.{Commit}
use Rattle.mt_core.proofs.commits.durable_count.Given as goal

abbrev pub invariant-loop-i : goal.invariant-loop-i
invariant-loop-i l = (k : ℕ) (d : Commit) → k < l.i → nat_lt l.place (get_or l.commits k d).place ≡ false
