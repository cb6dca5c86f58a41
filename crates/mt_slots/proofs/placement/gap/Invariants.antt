use Rattle.std.proofs.Common.{◌≢◌, ◌+◌, ◌≤◌, ◌<◌, ℕ}
use Rattle.mt_slots.specs.Page.{offset, size, IsFree}
use Rattle.mt_slots.proofs.placement.gap.Given as goal

abbrev pub invariant-loop-j : goal.invariant-loop-j
invariant-loop-j l = (k : ℕ) → k < l.j → k ≢ l.i → l.low ≤ offset l.page k + size l.page k → offset l.page k + size l.page k + l.bytes ≤ 4096 → IsFree l.page l.i (offset l.page k + size l.page k) l.bytes → ⊥
