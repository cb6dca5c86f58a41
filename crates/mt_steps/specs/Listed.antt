-- Rows that are listed from pages, one after the other, and the base of them.
use Rattle.std.specs.Prelude.{◌≡◌, ◌<◌, ℕ, ℤ, List, Some, Contains, length, get_or}
use Rattle.mt_file.specs.File.{record_in}
use Rattle.mt_model.specs.Model.{Base}
use Rattle.mt_model.specs.Tables.{started}
use Rattle.mt_rows.specs.Rows.{AreKeysOnce}
use Rattle.mt_rows.specs.declared.rows.Row.{Row}
use Rattle.mt_space.specs.Changes.{PageBytes}
use Rattle.mt_counters.specs.Counters.{count_in}

-- the bounds and numbers of a page's first counters
pub record AreBounds (page : List ℕ) (counters : ℕ) (bounds : List (ℤ × ℤ × ℤ)) : Type 0 where
  pub many : length bounds ≡ counters
  pub each : (c : ℕ) (d : ℤ × ℤ × ℤ) → c < counters → started (get_or bounds c d) ≡ count_in page c

-- the record in a slot of a page is the row
abbrev pub IsRow : PageBytes → ℕ → ℕ → Row → Type 0
IsRow pages q s x = record_in pages q s ≡ Some (record { relation = x.relation; key = x.key; value = x.value })

-- In any order: each row is a record of a page below p, each record of these pages is a row, and no key stands twice.
pub record HasListed (pages : PageBytes) (p : ℕ) (rows : List Row) : Type 0 where
  pub found : (x : Row) → Contains rows x → (q : ℕ) × (s : ℕ) × (q < p) × IsRow pages q s x
  pub listed : (q s : ℕ) (x : Row) → q < p → IsRow pages q s x → Contains rows x
  pub once : AreKeysOnce rows

-- no record stands in a page past these
abbrev pub AreInside : ℕ → PageBytes → Type 0
AreInside total pages = (q s : ℕ) (x : Row) → IsRow pages q s x → q < total

-- it has the same rows, and as many counters, each the same
pub record IsSame (counters : ℕ) (b m : Base) : Type 0 where
  pub rows : (r : ℕ) (k : List ℕ) → b.rows r k ≡ m.rows r k
  pub counts : (c : ℕ) → c < counters → b.counts c ≡ m.counts c
