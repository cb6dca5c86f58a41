-- Which pages of a device are free, and how many of them are reserved.
use Rattle.std.specs.Prelude.{ℕ, ◌≡◌, ◌≤◌, ◌<◌, ◌==◌, Bool, true, false, List, length, map, take, count_by}
use Rattle.std.proofs.Math.ListN.{get_or}
use Rattle.mt_base.specs.declared.limits.TheConstants.{MAX_PAGES}

-- of each page whether it is free, and how many free pages are reserved
abbrev pub Room : Type 0
Room = List Bool × ℕ

abbrev pub reserved_of : Room → ℕ
reserved_of s = s.1

-- how many pages are free
abbrev pub free_in : List Bool → ℕ
free_in pages = count_by (λ b. b) pages

abbrev pub free_of : Room → ℕ
free_of s = free_in s.0

-- the pages of kind 0 in a space map
abbrev pub mapped : List ℕ → ℕ → List Bool
mapped kinds pages = map (λ kind. kind == 0) (take pages kinds)

-- the free page with the smallest number
pub record IsFirstFree (pages : List Bool) (page : ℕ) : Type 0 where
  pub within : page < length pages
  pub free : get_or pages page false ≡ true
  pub first : (p : ℕ) → p < page → get_or pages p false ≡ false

-- what a space keeps: the number of free pages, of which those reserved are a part
pub record IsKept (pages : List Bool) (free reserved : ℕ) : Type 0 where
  pub few : length pages ≤ MAX_PAGES
  pub counted : free ≡ free_in pages
  pub room : reserved ≤ free
