-- What a plan of the record file answers.
use Rattle.std.specs.Prelude.{◌≡◌, ◌≢◌, ◌⊎◌, ℕ, ◌+◌, ◌<◌, ◌≤◌, List, [], length, Option, Some, None, false}
use Rattle.std.proofs.Math.ListN.{get_or}
use Rattle.mt_space.specs.Changes.{PageBytes, after, IsUntouched, AreShort}
use Rattle.mt_space.specs.declared.changes.PageChange.{PageChange}
use Rattle.mt_slots.specs.Page.{Row, slot, IsShaped, row_length, room_of}
use Rattle.mt_space.specs.Kinds.{kind}
use Rattle.mt_space.specs.Rooms.{mapped, IsFirstFree}
use Rattle.mt_file.specs.File.{record_in, IsFile, Adds, Drops, Stays, Moves}
use Rattle.mt_file.specs.Rooms.{fits_of}
use Rattle.mt_file.specs.declared.lookup.Lookup.{Lookup}
use Rattle.mt_file.specs.declared.lookup.Lookup.TheVariants as found
use Rattle.mt_file.specs.declared.step.Plan.{Plan}
use Rattle.mt_file.specs.declared.step.Step.{Step}
use Rattle.mt_file.specs.declared.step.Step.TheVariants.{Need, Done, Full}

-- ---- which page takes a record

-- the page that is named, or else the smallest free one of so many
abbrev pub IsChosen : Option ℕ → ℕ → PageBytes → ℕ → Type 0
IsChosen (Some room) total pages p = p ≡ room
IsChosen None total pages p = IsFirstFree (mapped (pages 0) total) p

-- a page that has to be seen for it: that one, or the map if none is named
abbrev pub IsLooked : Option ℕ → ℕ → PageBytes → ℕ → Type 0
IsLooked (Some room) total pages p = p ≡ room
IsLooked None total pages p = (p ≡ 0) ⊎ IsFirstFree (mapped (pages 0) total) p

-- the page that is named does not take so many bytes, or none is free
abbrev pub IsTooFull : Option ℕ → ℕ → PageBytes → ℕ → Type 0
IsTooFull (Some room) total pages bytes = fits_of (pages room) < bytes
IsTooFull None total pages bytes = (p : ℕ) → get_or (mapped (pages 0) total) p false ≡ false

-- the page that is named takes so many bytes
abbrev pub IsRoomy : Option ℕ → PageBytes → ℕ → Type 0
IsRoomy (Some room) pages bytes = bytes ≤ fits_of (pages room)
IsRoomy None pages bytes = Unit {0}

-- the page that is named, if one is, holds records
abbrev pub IsNamed : Option ℕ → PageBytes → Type 0
IsNamed room pages = (p : ℕ) → room ≡ Some p → kind pages p ≡ 3

-- ---- a put

-- pages of which those that a put may see are at hand as they are: the named page of records, and each other page
-- that holds no records
pub record IsReady (at_hand : ℕ → Option (List ℕ)) (room : Option ℕ) (pages : PageBytes) : Type 0 where
  pub file : IsFile pages
  pub named : IsNamed room pages
  pub seen : (p : ℕ) (bytes : List ℕ) → (kind pages p ≢ 3) ⊎ (room ≡ Some p) → at_hand p ≡ Some bytes → pages p ≡ bytes

-- changes of which none is of a page that a put may change
pub record IsApart (room : Option ℕ) (before : List PageChange) (pages : PageBytes) : Type 0 where
  pub short : AreShort before pages
  pub apart : (p : ℕ) → (kind (after before pages) p ≢ 3) ⊎ (room ≡ Some p) → IsUntouched before p

-- the answer of a put after these changes
abbrev pub IsPut : (ℕ → Option (List ℕ)) → Option ℕ → ℕ → List PageChange → PageBytes → Row → Step → Type 0
IsPut at_hand room total before pages row (Need p) =
    (at_hand p ≡ None) × IsLooked room total (after before pages) p
IsPut at_hand room total before pages row (Done plan) =
    Adds (after before pages) (after plan.changes.list.items pages) plan.name.page plan.name.slot row
    × IsChosen room total (after before pages) plan.name.page
    × IsRoomy room (after before pages) (row_length row)
IsPut at_hand room total before pages row Full = IsTooFull room total (after before pages) (row_length row)

-- the changes of a plan are as a log wants them
abbrev pub IsShortPlan : PageBytes → Step → Type 0
IsShortPlan pages (Need p) = Unit {0}
IsShortPlan pages (Done plan) = AreShort plan.changes.list.items pages
IsShortPlan pages Full = Unit {0}

-- what holds of a plan that is made
abbrev pub IfDone : Step → (Plan → Type 0) → Type 0
IfDone (Done plan) P = P plan
IfDone _ P = Unit {0}

-- it changes at most so many pages
abbrev pub IsFew : ℕ → Step → Type 0
IsFew n step = IfDone step (λ plan. length plan.changes.list.items ≤ n)

-- its changes are of pages at hand, and of those that were to change before
abbrev pub IsSeen : (ℕ → Option (List ℕ)) → List PageChange → Step → Type 0
IsSeen at_hand before step =
    IfDone step (λ plan. (p : ℕ) → at_hand p ≡ None → IsUntouched before p → IsUntouched plan.changes.list.items p)

-- ---- a removal

-- the answer of a removal: the map is asked for only if the page is given back
abbrev pub IsRemoval : (ℕ → Option (List ℕ)) → PageBytes → ℕ → ℕ → Step → Type 0
IsRemoval at_hand pages p s (Need q) =
    (at_hand q ≡ None) × ((q ≡ p) ⊎ ((q ≡ 0) × ((t : ℕ) → t ≢ s → record_in pages p t ≡ None)))
IsRemoval at_hand pages p s (Done plan) =
    Drops pages (after plan.changes.list.items pages) p s × (plan.name.page ≡ p) × (plan.name.slot ≡ s)
IsRemoval at_hand pages p s Full = ⊥

-- ---- a replacement

-- the record under a name is r, and its page has no room for this one in its place
abbrev pub IsOutgrown : PageBytes → ℕ → Row → Row → Type 0
IsOutgrown pages p r row = room_of (pages p) + row_length r < row_length row

-- The record stays under its name if its page has room for it, and moves to a chosen page only if it has not.
abbrev pub IsReplaced : Option ℕ → ℕ → PageBytes → PageBytes → ℕ → ℕ → Row → Row → ℕ → ℕ → Type 0
IsReplaced room total pages next p s r row q t =
    ((q ≡ p) × (t ≡ s) × Stays pages next p s row)
    ⊎ (IsOutgrown pages p r row × ((q ≡ p) ⊎ (IsChosen room total pages q × IsRoomy room pages (row_length row)))
    × Moves pages next p s q t row)

-- the answer of a replacement of r
abbrev pub IsReplacement : (ℕ → Option (List ℕ)) → Option ℕ → ℕ → PageBytes → ℕ → ℕ → Row → Row → Step → Type 0
IsReplacement at_hand room total pages p s r row (Need q) =
    (at_hand q ≡ None) × ((q ≡ p) ⊎ (IsOutgrown pages p r row × IsLooked room total pages q))
IsReplacement at_hand room total pages p s r row (Done plan) =
    IsReplaced room total pages (after plan.changes.list.items pages) p s r row plan.name.page plan.name.slot
    × (r ≡ row → plan.changes.list.items ≡ [])
IsReplacement at_hand room total pages p s r row Full =
    IsOutgrown pages p r row × IsTooFull room total pages (row_length row)

-- page p holds this record alone, and all else stays
pub record IsWhole (old new : PageBytes) (p s : ℕ) (row : Row) : Type 0 where
  pub shaped : IsShaped (new p)
  pub here : slot (new p) s ≡ Some row
  pub alone : (t : ℕ) → t ≢ s → slot (new p) t ≡ None
  pub others : (q : ℕ) → q ≢ p → new q ≡ old q

-- ---- a reading

abbrev pub IsFound : (ℕ → Option (List ℕ)) → PageBytes → ℕ → ℕ → Lookup → Type 0
IsFound at_hand pages p s (found.Need q) = (at_hand q ≡ None) × (q ≡ p)
IsFound at_hand pages p s (found.Record view) =
    record_in pages p s ≡ Some (record { relation = view.relation; key = view.key.now; value = view.value.now })
IsFound at_hand pages p s found.Nothing = record_in pages p s ≡ None
