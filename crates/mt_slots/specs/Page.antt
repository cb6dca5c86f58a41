-- A page of records is a list of slots.
use Rattle.std.specs.Prelude.{◌≡◌, ◌≢◌, ◌⊎◌, ℕ, zero, suc, ◌+◌, ◌-◌, ◌*◌, ◌<◌, ◌≤◌, List, map, set, length, Option, Some, None, ◌==◌, nat_lt, if◌then◌else◌, ◌++◌, ◌∷◌, []}
use Rattle.std.specs.List.{range_with_len}
use Rattle.std.proofs.Math.ListN.{get_or}
use Rattle.mt_base.specs.declared.limits.TheConstants.{PAGE_BYTES}
use Rattle.mt_base.specs.Limits.{IsKey}
use Rattle.mt_base.specs.Ranges.{u16_at, part}

-- what a slot holds
pub record Row : Type 0 where
  pub relation : ℕ
  pub key : List ℕ
  pub value : List ℕ

-- how many slots the table has, and what the head of slot i says
unfoldable pub count : List ℕ → ℕ
count page = u16_at page 0

unfoldable pub offset : List ℕ → ℕ → ℕ
offset page i = u16_at page (8 + 4 * i)

unfoldable pub size : List ℕ → ℕ → ℕ
size page i = u16_at page (10 + 4 * i)

-- the bytes that the record at a place takes, by its own head
unfoldable pub row_size : List ℕ → ℕ → ℕ
row_size page at = 4 + get_or page (at + 1) 0 + u16_at page (at + 2)

unfoldable pub row_at : List ℕ → ℕ → Row
row_at page at = record {
  relation = get_or page at 0;
  key = part page (at + 4) (get_or page (at + 1) 0);
  value = part page (at + 4 + get_or page (at + 1) 0) (u16_at page (at + 2));
}

-- what slot i holds; a slot that is empty, or past the table, holds nothing
unfoldable pub slot : List ℕ → ℕ → Option Row
slot page i =
    if nat_lt i (count page) then (if size page i == 0 then None else Some (row_at page (offset page i))) else None

-- the page as a list
abbrev pub slots : List ℕ → List (Option Row)
slots page = map (slot page) (range_with_len 0 (count page))

-- the bytes of the records of the first n slots, and how many they are
abbrev pub live_bytes : List ℕ → ℕ → ℕ
live_bytes page zero = 0
live_bytes page (suc n) = live_bytes page n + size page n

abbrev pub live_slots : List ℕ → ℕ → ℕ
live_slots page zero = 0
live_slots page (suc n) = live_slots page n + (if size page n == 0 then 0 else 1)

-- the bytes that are neither the page's head nor a slot's nor a record's
unfoldable pub room_of : List ℕ → ℕ
room_of page = PAGE_BYTES - 8 - 4 * count page - live_bytes page (count page)

-- ---- a page of records

-- a record of n bytes at a place
pub record IsRow (page : List ℕ) (at n : ℕ) : Type 0 where
  pub inside : at + n ≤ PAGE_BYTES
  pub whole : n ≡ row_size page at

-- no slot's record has a byte of a range, but for slot i; an empty slot is 0, 0 and so bars nothing
abbrev pub IsFree : List ℕ → ℕ → ℕ → ℕ → Type 0
IsFree page i at n = (j : ℕ) → j < count page → j ≢ i → (offset page j + size page j ≤ at) ⊎ (at + n ≤ offset page j)

-- slot i of a page whose table ends at `low`
pub record IsSlot (page : List ℕ) (low i : ℕ) : Type 0 where
  pub empty : size page i ≡ 0 → offset page i ≡ 0
  pub behind : size page i ≢ 0 → low ≤ offset page i
  pub row : size page i ≢ 0 → IsRow page (offset page i) (size page i)

-- the records lie after the table, within the page, and do not overlap
pub record IsShaped (page : List ℕ) : Type 0 where
  pub length : length page ≡ PAGE_BYTES
  pub zeros : (i : ℕ) → 2 ≤ i → i < 8 → get_or page i 0 ≡ 0
  pub table : 8 + 4 * count page ≤ PAGE_BYTES
  pub each : (i : ℕ) → i < count page → IsSlot page (8 + 4 * count page) i
  pub apart : (i : ℕ) → i < count page → IsFree page i (offset page i) (size page i)
  pub room : 8 + 4 * count page + live_bytes page (count page) ≤ PAGE_BYTES

-- a record of a schema of so many relations, whose values are no longer than this
pub record Fits (relations longest : ℕ) (r : Row) : Type 0 where
  pub relation : r.relation < relations
  pub key : IsKey r.key
  pub value : length r.value ≤ longest

-- each record is
abbrev pub IsWithin : ℕ → ℕ → List ℕ → Type 0
IsWithin relations longest page = (i : ℕ) (r : Row) → slot page i ≡ Some r → Fits relations longest r

-- the bytes are a page of records of such a schema
pub record IsPage (relations longest : ℕ) (page : List ℕ) : Type 0 where
  pub shaped : IsShaped page
  pub within : IsWithin relations longest page

-- ---- the list's operations

-- slot i holds x, the others hold what they held, and the table is n slots long
pub record Sets (old new : List ℕ) (i : ℕ) (x : Option Row) (n : ℕ) : Type 0 where
  pub here : slot new i ≡ x
  pub others : (j : ℕ) → j ≢ i → slot new j ≡ slot old j
  pub counted : count new ≡ n

-- the bytes of a record: its own head, its key and its value
abbrev pub row_length : Row → ℕ
row_length r = 4 + length r.key + length r.value

-- Slot i may be taken, and the table is then n slots long: it is an empty slot, or the next one.
abbrev pub Opens : List ℕ → ℕ → ℕ → Type 0
Opens page i n = ((i < count page) × (size page i ≡ 0) × (n ≡ count page)) ⊎ ((i ≡ count page) × (n ≡ i + 1))

-- the lowest empty slot, or a new one if there is none, takes a record
pub record Inserted (old new : List ℕ) (i : ℕ) (r : Row) : Type 0 where
  pub first : (j : ℕ) → j < i → size old j ≢ 0
  pub sets : (n : ℕ) × Opens old i n × Sets old new i (Some r) n
  pub live : live_bytes new (count new) ≡ live_bytes old (count old) + row_length r

-- a list with x at place i, which may be the next one
abbrev pub put_at : List (Option Row) → ℕ → Option Row → List (Option Row)
put_at xs i x = if nat_lt i (length xs) then set xs i x else xs ++ x ∷ []

-- no slot that may be taken leaves room for a record of so many bytes
abbrev pub IsFull : List ℕ → ℕ → Type 0
IsFull page bytes = (i n : ℕ) → Opens page i n → PAGE_BYTES < 8 + 4 * n + live_bytes page (count page) + bytes
