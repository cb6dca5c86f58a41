-- The kinds of pages, as the space map has them: 0 free, 1 fixed (pages 0 to 2), 2 bucket, 3 records.
use Rattle.std.specs.Prelude.{ℕ, ◌≡◌, ◌≢◌, ◌⊎◌, ◌<◌, ◌≤◌, List}
use Rattle.std.proofs.Math.ListN.{get_or}

-- the kind of a page, by the bytes of all pages, of which page 0 is the map
abbrev pub kind : (ℕ → List ℕ) → ℕ → ℕ
kind pages p = get_or (pages 0) p 0

-- the page p of so many can be of this kind
pub record CanBe (total p kind : ℕ) : Type 0 where
  pub fixed : p < 3 → kind ≡ 1
  pub taken : 3 ≤ p → (kind ≡ 0) ⊎ ((kind ≡ 2) ⊎ (kind ≡ 3))
  pub within : kind ≢ 0 → p < total

-- the space map is one of so many pages
abbrev pub IsMap : ℕ → (ℕ → List ℕ) → Type 0
IsMap total pages = (p : ℕ) → CanBe total p (kind pages p)
