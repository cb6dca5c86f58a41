-- What all pages together represent.
use Rattle.mt_counters.specs.Counters.{count_in}
use Rattle.mt_space.specs.Kinds.{IsMap}
use Rattle.std.specs.Prelude.{◌≡◌, ℕ, List, Some, ◌<◌, get_or}
use Rattle.mt_base.specs.declared.limits.TheConstants.{MAX_VALUE_BYTES}
use Rattle.mt_base.specs.declared.numbers.RecordName.{RecordName}
use Rattle.mt_slots.specs.Page.{Row}
use Rattle.mt_space.specs.Changes.{PageBytes}
use Rattle.mt_file.specs.File.{record_in, IsFile, AreWithin}
use Rattle.mt_index.specs.Maps.{Map}
use Rattle.mt_index.specs.Pages.{AreMap, AreFormed}
use Rattle.mt_model.specs.Model.{Base}

-- some record has this value under this relation and key
abbrev pub IsThere : PageBytes → ℕ → List ℕ → List ℕ → Type 0
IsThere pages r k v = (p : ℕ) × (s : ℕ) × (record_in pages p s ≡ Some (record { relation = r; key = k; value = v }))

-- The rows are the live records. How the index finds them does not appear.
pub record HoldsRows (pages : PageBytes) (b : Base) : Type 0 where
  pub found : (r : ℕ) (k v : List ℕ) → b.rows r k ≡ Some v → IsThere pages r k v
  pub there : (r : ℕ) (k v : List ℕ) → IsThere pages r k v → b.rows r k ≡ Some v

-- the counters are those of page 2, as many as it says; what lies after the last one is open
abbrev pub HoldsCounts : PageBytes → Base → Type 0
HoldsCounts pages b = (c : ℕ) → c < get_or (pages 2) 1 0 → b.counts c ≡ count_in (pages 2) c

-- The base that the pages hold.
pub record Holds (pages : PageBytes) (b : Base) : Type 0 where
  pub rows : HoldsRows pages b
  pub counts : HoldsCounts pages b

-- each entry of the index names a record of its relation and key, and each record has one
pub record AreNamed (pages : PageBytes) (m : Map) : Type 0 where
  pub names : (r : ℕ) (k : List ℕ) (n : RecordName) → m r k ≡ Some n
      → (v : List ℕ) × (record_in pages n.page n.slot ≡ Some (record { relation = r; key = k; value = v }))
  pub named : (p s : ℕ) (row : Row) → record_in pages p s ≡ Some row
      → m row.relation row.key ≡ Some (record { page = p; slot = s })

-- the records and their index, in pages of a schema of so many relations and pages; each bucket page stands in a
-- chain
pub record AreRows (relations total : ℕ) (pages : PageBytes) (m : Map) : Type 0 where
  pub file : IsFile pages
  pub within : AreWithin relations MAX_VALUE_BYTES pages
  pub index : AreMap total pages m
  pub formed : AreFormed relations total pages
  pub named : AreNamed pages m
  pub map : IsMap total pages
