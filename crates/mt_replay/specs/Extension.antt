-- Pages in memory whose schema has more relations and counters than before.
use Rattle.std.specs.Prelude.{ℕ, ℤ, ◌+◌, List, [], length, get_or, map}
use Rattle.mt_model.specs.Tables.{started}
use Rattle.mt_counters.specs.Counters.{AreCounters}
use Rattle.mt_counters.specs.Extended.{IsExtended, TakesMore}
use Rattle.mt_replay.specs.Memory.{Sets}

-- the schema of the pages may have so many relations more, and counters with these bounds and starts
abbrev pub CanExtend : ℕ → List (ℤ × ℤ × ℤ) → List (List ℕ) → Type 0
CanExtend relations starts items =
    TakesMore (get_or (get_or items 2 []) 0 0) (get_or (get_or items 2 []) 1 0) relations starts

-- Page 2 has so many relations more, and these counters after those that it had. The other pages stay.
pub record ExtendsSchema (relations : ℕ) (starts : List (ℤ × ℤ × ℤ)) (old new : List (List ℕ)) : Type 0 where
  pub takes : CanExtend relations starts old
  pub sets : Sets old new 2 (get_or new 2 [])
  pub extended : IsExtended relations (map started starts) (get_or old 2 []) (get_or new 2 [])
  pub schema : (r c : ℕ) → AreCounters r c (get_or old 2 []) → AreCounters (r + relations) (c + length starts)
      (get_or new 2 [])
