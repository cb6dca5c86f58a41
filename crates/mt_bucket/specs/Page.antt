-- A bucket page is a list of entries.
use Rattle.std.specs.Prelude.{ℕ, zero, suc, ◌≡◌, ◌≤◌, ◌<◌, ◌+◌, ◌*◌, Bool, true, false, List, [], ◌∷◌, length, take, drop, min}
use Rattle.std.proofs.Math.ListN.{get_or}
use Rattle.mt_bucket.specs.declared.heads.TheConstants.{CELL_BYTES, HEAD_BYTES, MAX_ENTRIES}
use Rattle.mt_base.specs.declared.limits.TheConstants.{MAX_KEY_BYTES, PAGE_BYTES}
use Rattle.mt_base.specs.Ranges.{u16_at, part}
use Rattle.mt_bucket.specs.Entries.{Entry, is_at}
use Rattle.mt_bucket.specs.Hash.{hash, high}

-- the depth, the count and the overflow page that a page's head names
abbrev pub depth_of : List ℕ → ℕ
depth_of page = get_or page 0 0

abbrev pub count_of : List ℕ → ℕ
count_of page = min (u16_at page 2) MAX_ENTRIES

abbrev pub next_of : List ℕ → ℕ
next_of page = u16_at page 4

-- the bytes of an entry from a place on, and the entry that they are
abbrev pub cell : List ℕ → ℕ → List ℕ
cell page at = part page at CELL_BYTES

abbrev pub entry_of : List ℕ → Entry
entry_of bytes = record {
  relation = get_or bytes 0 0;
  key = take (get_or bytes 1 0) (drop 2 bytes);
  name = record { page = u16_at bytes 66; slot = u16_at bytes 68 };
}

-- so many cells, one after the other
abbrev pub entries_from : List ℕ → ℕ → ℕ → List Entry
entries_from page at zero = []
entries_from page at (suc n) = entry_of (cell page at) ∷ entries_from page (at + CELL_BYTES) n

-- the page as a list, whatever its bytes are
abbrev pub entries : List ℕ → List Entry
entries page = entries_from page HEAD_BYTES (count_of page)

-- the entry at place i is one of this relation and key
abbrev pub holds : ℕ → List ℕ → List ℕ → ℕ → Bool
holds r k page i = is_at r k (entry_of (cell page (HEAD_BYTES + CELL_BYTES * i)))

-- the first entry of this relation and key is at place i
pub record IsFirst (r : ℕ) (k page : List ℕ) (i : ℕ) : Type 0 where
  pub within : i < count_of page
  pub here : holds r k page i ≡ true
  pub before : (j : ℕ) → j < i → holds r k page j ≡ false

-- no entry is of this relation and key
abbrev pub HasNone : ℕ → List ℕ → List ℕ → Type 0
HasNone r k page = (j : ℕ) → j < count_of page → holds r k page j ≡ false

-- the same head, but for the count
pub record KeepsHead (old new : List ℕ) : Type 0 where
  pub size : length new ≡ length old
  pub depth : depth_of new ≡ depth_of old
  pub first : get_or new 1 0 ≡ get_or old 1 0
  pub next : next_of new ≡ next_of old
  pub last : u16_at new 6 ≡ u16_at old 6

-- the entries whose hash has the bit, and those whose hash has not
abbrev pub goes_over : ℕ → Entry → Bool
goes_over bit e = high bit (hash e.key)

-- ---- a bucket page, by its bytes

-- a cell: its relation, key and page are of the schema, and the bytes after the key are zero
pub record IsCell (relations pages : ℕ) (page : List ℕ) (at : ℕ) : Type 0 where
  pub relation : get_or page at 0 < relations
  pub some : 1 ≤ get_or page (at + 1) 0
  pub short : get_or page (at + 1) 0 ≤ MAX_KEY_BYTES
  pub fill : (i : ℕ) → get_or page (at + 1) 0 ≤ i → i < MAX_KEY_BYTES → get_or page (at + 2 + i) 0 ≡ 0
  pub place : u16_at page (at + 66) < pages

-- a bucket page of a schema of so many relations and pages
pub record IsBucket (relations pages : ℕ) (page : List ℕ) : Type 0 where
  pub length : length page ≡ PAGE_BYTES
  pub shallow : depth_of page ≤ 9
  pub first_zero : get_or page 1 0 ≡ 0
  pub few : u16_at page 2 ≤ MAX_ENTRIES
  pub next : next_of page < pages
  pub zeros : u16_at page 6 ≡ 0
  pub each : (i : ℕ) → i < u16_at page 2 → IsCell relations pages page (HEAD_BYTES + CELL_BYTES * i)

-- a bucket page stays one
abbrev pub KeepsBucket : List ℕ → List ℕ → Type 0
KeepsBucket old new = (relations pages : ℕ) → IsBucket relations pages old → IsBucket relations pages new

-- it does, with a cell more
abbrev pub TakesCell : List ℕ → List ℕ → List ℕ → Type 0
TakesCell bytes old new = (relations pages : ℕ) → IsCell relations pages bytes 0 → IsBucket relations pages old
    → IsBucket relations pages new
