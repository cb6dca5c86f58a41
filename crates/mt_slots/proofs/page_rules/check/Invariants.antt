use Rattle.std.proofs.Common.{◌≡◌, ◌+◌, ◌*◌, ◌≤◌, ◌<◌, ℕ}
use Rattle.mt_slots.specs.Page.{offset, size, count, IsFree, live_bytes}
use Rattle.mt_slots.specs.Parts.{IsGood}
use Rattle.mt_slots.proofs.page_rules.check.Given as goal

abbrev pub invariant-loop-i : goal.invariant-loop-i
invariant-loop-i l = record {
  each : (k : ℕ) → k < l.i → IsGood l.relations l.longest l.page (8 + 4 * count l.page) k;
  apart : (k : ℕ) → k < l.i → IsFree l.page k (offset l.page k) (size l.page k);
  live : l.live ≡ live_bytes l.page l.i;
  least : l.live ≤ 65536 * l.i;
}
