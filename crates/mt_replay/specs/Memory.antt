-- Pages in memory.
use Rattle.std.specs.Prelude.{◌≡◌, ◌≢◌, ℕ, ◌<◌, ◌≤◌, List, [], length, map, set, get_or, Some, None, slice_get}
use Rattle.std.specs.List.{AllByRecursion}
use Rattle.std.proofs.Common.{⊎_elim, sym, ap, ◌∙◌}
use Rattle.std.proofs.lemmas.Bool.{cases_lt}
use Rattle.std.proofs.lemmas.Option.{slice_get_past, get_or_from_slice_get}
use Rattle.mt_base.specs.declared.limits.TheConstants.{MAX_RELATIONS, PAGE_BYTES}
use Rattle.mt_space.specs.PageLists.{AreWhole}
use Rattle.mt_space.specs.Changes.{PageBytes, after}
use Rattle.mt_space.specs.declared.changes.PageChange.{PageChange}
use Rattle.mt_steps.specs.Plans.{IsGood}

-- they are the first of these
abbrev pub AreFirst : List (List ℕ) → PageBytes → Type 0
AreFirst pages f = (p : ℕ) → p < length pages → get_or pages p [] ≡ f p

-- one page has these bytes, and the others stay
pub record Sets (old new : List (List ℕ)) (page : ℕ) (bytes : List ℕ) : Type 0 where
  pub whole : AreWhole new
  pub is : new ≡ set old page bytes
  pub count : length new ≡ length old

-- they are all of a device, and break no rule, whatever the schema's relations and counters are
abbrev pub AreGood : List (List ℕ) → Type 0
AreGood pages = ∥ ((f : PageBytes) × (relations : ℕ) × (counters : ℕ) × AreFirst pages f
    × IsGood relations counters (length pages) f × (relations ≤ MAX_RELATIONS)) ∥₁

-- each page but those of these numbers is as it was
abbrev pub SameBut : List ℕ → List (List ℕ) → List (List ℕ) → Type 0
SameBut changed old new = (p : ℕ) → AllByRecursion (λ q. q ≢ p) changed → get_or new p [] ≡ get_or old p []

-- so many pages, at most, are not
pub record ChangesFew (most : ℕ) (old new : List (List ℕ)) : Type 0 where
  pub changed : List ℕ
  pub few : length changed ≤ most
  pub others : SameBut changed old new

-- these changes are made, and no other
pub record Makes (changes : List PageChange) (old new : List (List ℕ)) : Type 0 where
  pub whole : AreWhole new
  pub count : length new ≡ length old
  pub made : (f : PageBytes) → AreFirst old f → AreFirst new (after changes f)
  pub others : SameBut (map (λ (c : PageChange). c.page) changes) old new

pub whole_at : (pages : List (List ℕ)) (p : ℕ) (bytes : List ℕ) → AreWhole pages → slice_get pages p ≡ Some bytes
    → length bytes ≡ PAGE_BYTES
whole_at pages p bytes whole there = ⊎_elim
    (λ (lt : p < length pages). sym (ap length (get_or_from_slice_get pages p bytes [] there)) ∙ whole p lt)
    (λ (le : length pages ≤ p). let none : None ≡ Some bytes = sym (slice_get_past pages p le) ∙ there in cc)
    (cases_lt p (length pages))
