-- The records of all pages, by their names.
use Rattle.std.specs.Prelude.{◌≡◌, ◌≢◌, ◌⊎◌, ℕ, ◌==◌, if◌then◌else◌, length, Option, Some, None}
use Rattle.mt_base.specs.declared.limits.TheConstants.{PAGE_BYTES}
use Rattle.mt_slots.specs.Page.{Row, slot, IsShaped, Fits}
use Rattle.mt_space.specs.Changes.{PageBytes}
use Rattle.mt_space.specs.Kinds.{kind}

-- what stands under the name of a record: a page and a slot
unfoldable pub record_in : PageBytes → ℕ → ℕ → Option Row
record_in pages p s = if kind pages p == 3 then slot (pages p) s else None

-- the map is whole and no page of records, and each page of records is well formed
pub record IsFile (pages : PageBytes) : Type 0 where
  pub whole : length (pages 0) ≡ PAGE_BYTES
  pub fixed : kind pages 0 ≡ 1
  pub each : (p : ℕ) → kind pages p ≡ 3 → IsShaped (pages p)

-- the records are those of a schema of so many relations, with no value longer than this
abbrev pub AreWithin : ℕ → ℕ → PageBytes → Type 0
AreWithin relations longest pages = (p s : ℕ) (r : Row) → record_in pages p s ≡ Some r → Fits relations longest r

-- one name holds x, and every other name what it held
pub record Puts (old new : PageBytes) (p s : ℕ) (x : Option Row) : Type 0 where
  pub here : record_in new p s ≡ x
  pub elsewhere : (q t : ℕ) → (q ≢ p) ⊎ (t ≢ s) → record_in new q t ≡ record_in old q t

-- at most page p and its kind in the map change
pub record Touches (old new : PageBytes) (p : ℕ) : Type 0 where
  pub kinds : (q : ℕ) → q ≢ p → kind new q ≡ kind old q
  pub others : (q : ℕ) → q ≢ p → q ≢ 0 → new q ≡ old q

-- one record more, under a name that held nothing
pub record Adds (old new : PageBytes) (p s : ℕ) (row : Row) : Type 0 where
  pub free : record_in old p s ≡ None
  pub puts : Puts old new p s (Some row)
  pub file : IsFile new
  pub within : (relations longest : ℕ) → AreWithin relations longest old → Fits relations longest row
      → AreWithin relations longest new
  pub own : kind new p ≡ 3
  pub touches : Touches old new p

-- one record less; its page is given back if it was the last
pub record Drops (old new : PageBytes) (p s : ℕ) : Type 0 where
  pub puts : Puts old new p s None
  pub file : IsFile new
  pub within : (relations longest : ℕ) → AreWithin relations longest old → AreWithin relations longest new
  pub last : ((t : ℕ) → t ≢ s → record_in old p t ≡ None) → kind new p ≡ 0
  pub more : (t : ℕ) → t ≢ s → record_in old p t ≢ None → kind new p ≡ 3
  pub touches : Touches old new p

-- another record under the same name, in a page that takes it
pub record Stays (old new : PageBytes) (p s : ℕ) (row : Row) : Type 0 where
  pub puts : Puts old new p s (Some row)
  pub file : IsFile new
  pub within : (relations longest : ℕ) → AreWithin relations longest old → Fits relations longest row
      → AreWithin relations longest new
  pub kinds : (q : ℕ) → kind new q ≡ kind old q
  pub others : (q : ℕ) → q ≢ p → new q ≡ old q

-- a record is taken away under one name, and another is put under a second one
pub record Moves (old new : PageBytes) (p s q t : ℕ) (row : Row) : Type 0 where
  pub between : PageBytes
  pub drops : Drops old between p s
  pub adds : Adds between new q t row
