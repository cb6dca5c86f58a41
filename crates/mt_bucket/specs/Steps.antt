-- What single steps do to a page.
use Rattle.std.specs.Prelude.{ℕ, ◌≡◌, ◌≢◌, ◌+◌, ◌*◌, ◌<◌, ◌≤◌, ◌++◌, ◌∷◌, [], Bool, cond, not, List, filter}
use Rattle.mt_bucket.specs.declared.heads.TheConstants.{CELL_BYTES, HEAD_BYTES, MAX_ENTRIES}
use Rattle.mt_base.specs.Ranges.{u16_at}
use Rattle.mt_bucket.specs.Entries.{Entry}
use Rattle.mt_bucket.specs.Page.{cell, count_of, entries, KeepsHead}

-- a cell more, after the others
pub record OneMore (bytes old new : List ℕ) : Type 0 where
  pub head : KeepsHead old new
  pub number : u16_at new 2 ≡ count_of old + 1
  pub front : (j : ℕ) → j < count_of old → cell new (HEAD_BYTES + CELL_BYTES * j)
      ≡ cell old (HEAD_BYTES + CELL_BYTES * j)
  pub last : cell new (HEAD_BYTES + CELL_BYTES * count_of old) ≡ bytes

-- an entry more, after the others
pub record Pushed (e : Entry) (old new : List ℕ) : Type 0 where
  pub head : KeepsHead old new
  pub counted : count_of new ≡ count_of old + 1
  pub entries : entries new ≡ entries old ++ e ∷ []

-- the cell at place i is gone, and the last one stands there
pub record Closed (i : ℕ) (old new : List ℕ) : Type 0 where
  pub head : KeepsHead old new
  pub counted : count_of old ≡ count_of new + 1
  pub few : u16_at new 2 ≤ MAX_ENTRIES
  pub others : (j : ℕ) → j ≢ i → j < count_of new → cell new (HEAD_BYTES + CELL_BYTES * j)
      ≡ cell old (HEAD_BYTES + CELL_BYTES * j)
  pub filled : i < count_of new → cell new (HEAD_BYTES + CELL_BYTES * i)
      ≡ cell old (HEAD_BYTES + CELL_BYTES * count_of new)

-- an entry goes to the one page or to the other
abbrev pub Sorted : Bool → Entry → List ℕ → List ℕ → List ℕ → List ℕ → Type 0
Sorted over e page page2 to to2 = cond over ((page2 ≡ page) × Pushed e to to2) (Pushed e page page2 × (to2 ≡ to))

-- the first entries of a page have been dealt out: these stay, and those go after what was there
pub record Dealt (over : Entry → Bool) (all : List Entry) (i : ℕ) (old page start to : List ℕ) : Type 0 where
  pub head : KeepsHead old page
  pub to_head : KeepsHead start to
  pub few : count_of page ≤ i
  pub to_few : count_of to ≤ count_of start + i
  pub stay : entries page ≡ filter (λ e. not (over e)) all
  pub go : entries to ≡ entries start ++ filter over all
