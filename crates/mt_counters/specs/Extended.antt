-- A schema that has more relations and counters than before.
use Rattle.std.specs.Prelude.{◌≡◌, ◌+◌, ◌-◌, ◌<◌, nat_lt, ◌≤◌, ℕ, ℤ, cond, List, All, length, get_or}
use Rattle.mt_base.specs.declared.limits.TheConstants.{MAX_COUNTERS, MAX_RELATIONS, PAGE_BYTES}
use Rattle.mt_base.specs.Limits.{IsCounter}
use Rattle.mt_model.specs.Model.{Base}
use Rattle.mt_model.specs.Tables.{count_at}
use Rattle.mt_model.specs.declared.counters.Count.{Count}
use Rattle.mt_counters.specs.Counters.{count_in}

-- A schema of these sizes may have so many relations more, and these counters, each with its bounds and its start.
pub record TakesMore (relations counters more : ℕ) (starts : List (ℤ × ℤ × ℤ)) : Type 0 where
  pub relation_count : relations + more ≤ MAX_RELATIONS
  pub counter_count : counters + length starts ≤ MAX_COUNTERS
  pub each : All (λ (t : ℤ × ℤ × ℤ). IsCounter t.0 t.1 t.2) starts

-- The counters page has so many relations more, and these counters after those that it had.
pub record IsExtended (relations : ℕ) (counters : List Count) (old new : List ℕ) : Type 0 where
  pub size : length new ≡ PAGE_BYTES
  pub more_relations : get_or new 0 0 ≡ get_or old 0 0 + relations
  pub more_counters : get_or new 1 0 ≡ get_or old 1 0 + length counters
  pub stay : (c : ℕ) → c < get_or old 1 0 → count_in new c ≡ count_in old c
  pub starts : (i : ℕ) → i < length counters → count_in new (get_or old 1 0 + i) ≡ count_at counters i

-- a base with these counters after the first n that it has, and no other
unfoldable pub with_counters : ℕ → List Count → Base → Base
with_counters n counters b = record b {
  counts = λ c. cond (nat_lt c n) (b.counts c) (count_at counters (c - n));
}
