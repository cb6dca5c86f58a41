-- The pages that a split changes, once it is made.
use Rattle.std.specs.Prelude.{ℕ, ◌≡◌, ◌≢◌, ◌≤◌, ◌<◌, Bool, List, [], ◌∷◌, ◌++◌, length}
use Rattle.std.specs.Bool.{OnTrue, OnFalse}
use Rattle.mt_bucket.specs.declared.heads.TheConstants.{MAX_ENTRIES}
use Rattle.mt_bucket.specs.Entries.{Entry}
use Rattle.mt_bucket.specs.Page.{depth_of, next_of, count_of, entries, KeepsHead, IsBucket}
use Rattle.mt_space.specs.declared.changes.PageChange.{PageChange}
use Rattle.mt_space.specs.Changes.{PageBytes, after, IsUntouched, AreShort}
use Rattle.mt_index.specs.Maps.{Each}
use Rattle.mt_index.specs.Pages.{TakesPage, Rewired, Parted}
use Rattle.mt_index.specs.declared.bucket_split.Halves.{Halves}

-- these pages have new bytes
pub record Notes (xs : List (ℕ × List ℕ)) (pages : PageBytes) (changes : List PageChange) : Type 0 where
  pub here : Each (λ (x : ℕ × List ℕ). after changes pages x.0 ≡ x.1) xs
  pub others : (p : ℕ) → Each (λ (x : ℕ × List ℕ). p ≢ x.0) xs → after changes pages p ≡ pages p
  pub untouched : (p : ℕ) → Each (λ (x : ℕ × List ℕ). p ≢ x.0) xs → IsUntouched changes p
  pub short : AreShort changes pages
  pub few : length changes ≤ length xs

-- the pages that change, the last one first
abbrev pub changed : Halves → List (ℕ × List ℕ)
changed h = (h.fresh, h.up) ∷ (h.bucket, h.low) ∷ (1, h.directory) ∷ (0, h.space) ∷ []

-- the fixed pages, the bucket's and the new one are different pages
pub record Apart (b q : ℕ) : Type 0 where
  pub bucket_0 : 0 ≢ b
  pub bucket_1 : 1 ≢ b
  pub fresh_0 : 0 ≢ q
  pub fresh_1 : 1 ≢ q
  pub each_other : b ≢ q

-- an entry more in a page, if it has room
pub record Puts (there : Bool) (e : Entry) (old new : List ℕ) : Type 0 where
  pub head : KeepsHead old new
  pub pushed : OnTrue there (entries new ≡ entries old ++ e ∷ [])
  pub full : OnFalse there (count_of old ≡ MAX_ENTRIES)
  pub unchanged : OnFalse there (new ≡ old)
  pub kept : (relations pages : ℕ) → e.relation < relations → 1 ≤ length e.key → e.name.page < pages
      → IsBucket relations pages old → IsBucket relations pages new

-- the half with the hash's bit takes it, or the other
pub record PutsInHalf (upper there : Bool) (e : Entry) (old new : Halves) : Type 0 where
  pub up : OnTrue upper (Puts there e old.up new.up × (new ≡ record old { up = new.up }))
  pub low : OnFalse upper (Puts there e old.low new.low × (new ≡ record old { low = new.low }))

-- a page with a page after it
pub record Linked (q : ℕ) (old new : List ℕ) : Type 0 where
  pub depth : depth_of new ≡ depth_of old
  pub next : next_of new ≡ q
  pub entries : entries new ≡ entries old
  pub kept : (relations pages : ℕ) → q < pages → IsBucket relations pages old → IsBucket relations pages new

pub record Links (upper : Bool) (q : ℕ) (old new : Halves) : Type 0 where
  pub taken : TakesPage q old.space new.space
  pub up : OnTrue upper (Linked q old.up new.up × (new ≡ record old { space = new.space; up = new.up }))
  pub low : OnFalse upper (Linked q old.low new.low × (new ≡ record old { space = new.space; low = new.low }))

-- the bucket b is split over b and q
pub record AreHalves (b q : ℕ) (space directory old : List ℕ) (h : Halves) : Type 0 where
  pub bucket : h.bucket ≡ b
  pub fresh : h.fresh ≡ q
  pub taken : TakesPage q space h.space
  pub wires : Rewired b q (depth_of old) directory h.directory
  pub parts : Parted old h.low h.up
