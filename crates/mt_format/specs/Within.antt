-- What a device may be formatted with.
use Rattle.std.specs.Prelude.{ℕ, ℤ, List, All, length}
use Rattle.mt_base.specs.Limits.{IsPageCount, IsAreaSize, IsRelationCount, IsCounterCount, IsCounter}

-- numbers and counters, each a low bound, a high bound and a start, all within their limits
pub record IsWithinLimits (page_count mib relation_count : ℕ) (bounds : List (ℤ × ℤ × ℤ)) : Type 0 where
  pub pages : IsPageCount page_count
  pub area : IsAreaSize mib
  pub relations : IsRelationCount relation_count
  pub few : IsCounterCount (length bounds)
  pub counters : All (λ t. IsCounter t.0 t.1 t.2) bounds
