use Rattle.std.proofs.Common.{◌≢◌, ◌⊎◌, ◌+◌, ◌≤◌, ◌<◌, ℕ}
use Rattle.mt_slots.specs.Page.{offset, size}
use Rattle.mt_slots.proofs.page_rules.is_free.Given as goal

abbrev pub invariant-loop-j : goal.invariant-loop-j
invariant-loop-j l = (k : ℕ) → k < l.j → k ≢ l.i → (offset l.page k + size l.page k ≤ l.at) ⊎ (l.at + l.bytes ≤ offset l.page k)
