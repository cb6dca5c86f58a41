use Rattle.std.proofs.Common.{◌≡◌, ◌<◌, ℕ, false}
use Rattle.mt_bucket.specs.Page.{holds}
use Rattle.mt_bucket.proofs.lookup.place_of.Given as goal

abbrev pub invariant-loop-i : goal.invariant-loop-i
invariant-loop-i l = (j : ℕ) → j < l.i → holds l.relation l.key l.page j ≡ false
