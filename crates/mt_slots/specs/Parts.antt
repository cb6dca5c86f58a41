-- What is known of a page while it is changed.
use Rattle.std.specs.Prelude.{◌≡◌, ◌≢◌, ◌⊎◌, ℕ, ◌+◌, ◌*◌, ◌/◌, ◌%◌, ◌<◌, ◌≤◌, List, [], ◌∷◌, ◌++◌, length, Some}
use Rattle.std.proofs.Math.ListN.{get_or}
use Rattle.mt_base.specs.declared.limits.TheConstants.{PAGE_BYTES}
use Rattle.mt_base.specs.Ranges.{Has, Same, Torn, part}
use Rattle.mt_base.specs.declared.touched.TouchedBytes.{TouchedBytes}
use Rattle.mt_base.specs.Touched.{TouchesOnly}
use Rattle.mt_slots.specs.Page.{Row, count, offset, size, row_at, slot, live_bytes, IsFree, IsShaped, IsSlot, Fits, Opens, Sets}

-- slot i of a page whose table ends at `low`, with a record of the schema if it holds one
pub record IsGood (relations longest : ℕ) (page : List ℕ) (low i : ℕ) : Type 0 where
  pub shaped : IsSlot page low i
  pub within : size page i ≢ 0 → Fits relations longest (row_at page (offset page i))

-- a record as it stands in a page
abbrev pub row_text : Row → List ℕ
row_text r = (r.relation ∷ length r.key ∷ length r.value / 256 ∷ length r.value % 256 ∷ []) ++ (r.key ++ r.value)

-- a record's relation and the length of its key are these, and its key is in the buffer
pub record KeepsKey (row : Row) (buffer : List ℕ) (relation n : ℕ) : Type 0 where
  pub same : relation ≡ row.relation
  pub small : relation < 256
  pub long : n ≡ length row.key
  pub fits : n < 256
  pub key : part buffer 0 n ≡ row.key

-- a record's text lies at a place, slot i's head names it, and all other bytes after the count stay
pub record Placed (old new : List ℕ) (i at : ℕ) (text : List ℕ) (n : ℕ) : Type 0 where
  pub len : length new ≡ length old
  pub counted : count new ≡ n
  pub points : offset new i ≡ at
  pub sized : size new i ≡ length text
  pub has : Has new at text
  pub rest : (k : ℕ) → 2 ≤ k → (k < 8 + 4 * i) ⊎ (12 + 4 * i ≤ k) → (k < at) ⊎ (at + length text ≤ k)
      → get_or new k 0 ≡ get_or old k 0

-- a place for a record of so many bytes in slot i, with which the table is n slots long
pub record IsPlace (page : List ℕ) (i n at bytes : ℕ) : Type 0 where
  pub opens : Opens page i n
  pub low : 8 + 4 * n ≤ at
  pub high : at + bytes ≤ PAGE_BYTES
  pub free : IsFree page i at bytes
  pub behind : (j : ℕ) → j < count page → j ≢ i → size page j ≢ 0 → 8 + 4 * n ≤ offset page j
  pub room : 8 + 4 * n + live_bytes page (count page) + bytes ≤ PAGE_BYTES

-- there is one
abbrev pub HasPlace : List ℕ → ℕ → ℕ → ℕ → Type 0
HasPlace page i n bytes = (at : ℕ) × IsPlace page i n at bytes

-- the records of the other slots stay where they are
abbrev pub StaysPut : List ℕ → List ℕ → ℕ → Type 0
StaysPut old new i = (j : ℕ) → j < count old → j ≢ i → offset new j ≡ offset old j

-- only these bytes change, even if the head of slot i was another before
abbrev pub TouchesRow : TouchedBytes → ℕ → List ℕ → List ℕ → Type 0
TouchesRow touched i old new = (before : List ℕ) → Torn (8 + 4 * i) 4 before old → TouchesOnly touched before new

-- a record of the page begins here
pub record Begins (page : List ℕ) (n low : ℕ) : Type 0 where
  pub place : ℕ
  pub within : place < n
  pub live : size page place ≢ 0
  pub here : offset page place ≡ low

-- a record is put into slot i, with which the table is n slots long
pub record PutsRow (old new : List ℕ) (i n : ℕ) (r : Row) : Type 0 where
  pub shaped : IsShaped new
  pub sets : Sets old new i (Some r) n
  pub live : live_bytes new (count new) ≡ live_bytes old (count old) + (4 + length r.key + length r.value)

-- what a walk over the first n slots finds: their bytes, the lowest empty slot, and where the lowest
-- record begins
pub record Surveyed (page : List ℕ) (n live empty low : ℕ) : Type 0 where
  pub live_is : live ≡ live_bytes page n
  pub least : live ≤ 65536 * n
  pub reached : empty ≤ n
  pub full : (j : ℕ) → j < empty → size page j ≢ 0
  pub first : empty < n → size page empty ≡ 0
  pub lowest : (j : ℕ) → j < n → size page j ≢ 0 → low ≤ offset page j
  pub high : low ≤ PAGE_BYTES
  pub begins : low < PAGE_BYTES → Begins page n low

-- the bytes from q on in the new page are those from p on in the old one
abbrev pub Shifted : ℕ → ℕ → ℕ → List ℕ → List ℕ → Type 0
Shifted p q n old new = (k : ℕ) → k < n → get_or new (q + k) 0 ≡ get_or old (p + k) 0

-- slot j's record has moved to the part after `top`
pub record Moved (old new : List ℕ) (top j : ℕ) : Type 0 where
  pub low : top ≤ offset new j
  pub high : offset new j + size old j ≤ PAGE_BYTES
  pub bytes : Shifted (offset old j) (offset new j) (size old j) old new

-- the records of the first n slots are packed at the page's end, from `top` on
pub record Packed (old new : List ℕ) (n top : ℕ) : Type 0 where
  pub len : length new ≡ length old
  pub top_is : top + live_bytes old n ≡ PAGE_BYTES
  pub head : Same 0 8 old new
  pub sizes : (j : ℕ) → j < count old → size new j ≡ size old j
  pub later : (j : ℕ) → n ≤ j → j < count old → offset new j ≡ offset old j
  pub empty : (j : ℕ) → j < n → size old j ≡ 0 → offset new j ≡ offset old j
  pub moved : (j : ℕ) → j < n → size old j ≢ 0 → Moved old new top j
  pub apart : (j k : ℕ) → j < n → k < n → j ≢ k → size old j ≢ 0 → size old k ≢ 0
      → (offset new j + size old j ≤ offset new k) ⊎ (offset new k + size old k ≤ offset new j)

-- the same slots, with no gap between the records
pub record Compacted (old new : List ℕ) : Type 0 where
  pub counted : count new ≡ count old
  pub sizes : (j : ℕ) → j < count old → size new j ≡ size old j
  pub slots : (j : ℕ) → slot new j ≡ slot old j
  pub live : live_bytes new (count new) ≡ live_bytes old (count old)
  pub low : (j : ℕ) → j < count old → size old j ≢ 0 → PAGE_BYTES ≤ offset new j + live_bytes old (count old)
