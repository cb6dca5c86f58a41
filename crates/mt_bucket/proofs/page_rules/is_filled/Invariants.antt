use Rattle.std.proofs.Common.{◌≡◌, ◌+◌, ◌≤◌, ◌<◌, ℕ, get_or}
use Rattle.mt_bucket.proofs.page_rules.is_filled.Given as goal

abbrev pub invariant-loop-i : goal.invariant-loop-i
invariant-loop-i l = (k : ℕ) → l.fn.key ≤ k → k < l.i → get_or l.page (l.at + k) 0 ≡ 0
