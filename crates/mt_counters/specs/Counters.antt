-- The counters page.
use Rattle.std.specs.Prelude.{◌≡◌, ℕ, ◌+◌, ◌*◌, ◌<◌, ◌≤◌, List, length}
use Rattle.std.proofs.Math.ListN.{get_or}
use Rattle.mt_counters.specs.declared.counters.TheConstants.{COUNTERS_HEAD_BYTES, COUNTER_BYTES}
use Rattle.mt_base.specs.declared.limits.TheConstants.{MAX_COUNTERS, PAGE_BYTES}
use Rattle.mt_base.specs.Ranges.{i64_at}
use Rattle.mt_model.specs.declared.counters.Count.{Count}
use Rattle.mt_model.specs.Tables.{IsLimited}

-- where a counter's bounds and number stand
abbrev pub place_of : ℕ → ℕ
place_of c = COUNTERS_HEAD_BYTES + COUNTER_BYTES * c

abbrev pub count_in : List ℕ → ℕ → Count
count_in page c = record {
  low = i64_at page (place_of c);
  high = i64_at page (place_of c + 8);
  number = i64_at page
      (place_of c + 16);
}

-- a counters page of a schema of so many relations and counters; what lies after the last counter is open
pub record AreCounters (relations counters : ℕ) (page : List ℕ) : Type 0 where
  pub size : length page ≡ PAGE_BYTES
  pub relations_reported : get_or page 0 0 ≡ relations
  pub counters_reported : get_or page 1 0 ≡ counters
  pub zeros : (i : ℕ) → 2 ≤ i → i < 8 → get_or page i 0 ≡ 0
  pub few : counters ≤ MAX_COUNTERS
  pub each : (c : ℕ) → c < counters → IsLimited (count_in page c)
