-- What the plan of any operation promises.
use Rattle.std.specs.Prelude.{◌≡◌, ◌≢◌, ◌⊎◌, ℕ, ◌+◌, ◌<◌, ◌≤◌, Bool, false, cond, List, Option, Some, None}
use Rattle.mt_base.specs.declared.limits.TheConstants.{MAX_RELATIONS}
use Rattle.mt_bucket.specs.Hash.{hash}
use Rattle.mt_slots.specs.Page.{Row, row_length}
use Rattle.mt_space.specs.Changes.{PageBytes, Agrees, after, AreShort}
use Rattle.mt_space.specs.declared.changes.PageChange.{PageChange}
use Rattle.mt_space.specs.Kinds.{kind}
use Rattle.mt_space.specs.Rooms.{mapped, free_in}
use Rattle.mt_file.specs.File.{record_in}
use Rattle.mt_file.specs.Plans.{IsNamed, IsOutgrown}
use Rattle.mt_file.specs.Rooms.{fits_of}
use Rattle.mt_index.specs.Index.{Linked, named}
use Rattle.mt_index.specs.Maps.{Map, Each}
use Rattle.mt_index.specs.Pages.{state_of}
use Rattle.mt_index.specs.Rule.{IsFull}
use Rattle.mt_model.specs.declared.operations.Op.{Op}
use Rattle.mt_model.specs.declared.operations.Op.TheVariants.{Get, Insert, Update, Delete, Read, Scan}
use Rattle.mt_model.specs.declared.operations.Reply.{Reply}
use Rattle.mt_model.specs.Model.{Base, IsWithin, reply_of, base_after}
use Rattle.mt_counters.specs.Counters.{AreCounters}
use Rattle.mt_steps.specs.Held.{Holds, AreRows}
use Rattle.mt_steps.specs.Logged.{HasSmallReply}

-- pages of a schema of so many relations, counters and pages that break no rule of their formats
pub record IsGood (relations counters total : ℕ) (pages : PageBytes) : Type 0 where
  pub meaning : Map
  pub rows : AreRows relations total pages meaning
  pub counts : AreCounters relations counters (pages 2)

-- how many pages are free
abbrev pub free_pages : ℕ → PageBytes → ℕ
free_pages total pages = free_in (mapped (pages 0) total)

-- an operation that only reads
abbrev pub IsReading : Op → Type 0
IsReading (Get r k) = Unit {0}
IsReading (Read c) = Unit {0}
IsReading (Scan r) = Unit {0}
IsReading _ = ⊥

-- free pages that an operation may take for itself; an insert may split a bucket or may not
abbrev pub own_needs : Op → Bool → ℕ
own_needs (Insert r k v) split = cond split 3 2
own_needs (Update r k v) split = 1
own_needs _ split = 0

-- free pages that the operation may take that takes one back
abbrev pub undo_pages : Op → ℕ
undo_pages (Update r k v) = 1
undo_pages (Delete r k) = 2
undo_pages _ = 0

-- the bytes of the record that an operation puts
abbrev pub record_bytes : Op → ℕ
record_bytes (Insert r k v) = row_length (record { relation = r; key = k; value = v })
record_bytes (Update r k v) = row_length (record { relation = r; key = k; value = v })
record_bytes _ = 0

-- the page that is named does not take so many bytes
abbrev pub IsTight : Option ℕ → PageBytes → ℕ → Type 0
IsTight room pages bytes = (p : ℕ) × (room ≡ Some p) × (fits_of (pages p) < bytes)

-- some good pages agree with what is at hand, in which the named page, if one is, holds records; and all such
abbrev pub HasPages : (ℕ → Option (List ℕ)) → Option ℕ → ℕ → ℕ → ℕ → Type 0
HasPages at_hand room relations counters total =
    (pages : PageBytes) × Agrees at_hand pages × IsGood relations counters total pages × IsNamed room pages

-- there are such pages, of a schema that has what an operation names
abbrev pub CanPlan : (ℕ → Option (List ℕ)) → Option ℕ → ℕ → Op → Type 0
CanPlan at_hand room total op = ∥ ((relations : ℕ) × (counters : ℕ) × HasPages at_hand room relations counters total
    × IsWithin relations counters op × (relations ≤ MAX_RELATIONS)) ∥₁

abbrev pub InPages : (ℕ → Option (List ℕ)) → Option ℕ → ℕ → ℕ → ℕ → (PageBytes → Type 0) → Type 0
InPages at_hand room relations counters total P =
    (pages : PageBytes) → Agrees at_hand pages → IsGood relations counters total pages → IsNamed room pages → P pages

-- a page of records that has none
abbrev pub HasNoRecord : PageBytes → ℕ → Type 0
HasNoRecord pages p = (kind pages p ≡ 3) × ((s : ℕ) → record_in pages p s ≡ None)

-- a page keeps its kind, or is one of records that is given back
abbrev pub IsGivenBack : ℕ → ℕ → Type 0
IsGivenBack old new = (new ≡ old) ⊎ ((old ≡ 3) × (new ≡ 0))

-- ---- which pages an operation takes and gives back

-- a record of this relation and key stood in the page
abbrev pub HasStood : PageBytes → ℕ → ℕ → List ℕ → Type 0
HasStood pages p r k =
    (s : ℕ) × (v : List ℕ) × (record_in pages p s ≡ Some (record { relation = r; key = k; value = v }))

-- the page for a record: the named one, or one that was free if none is named
abbrev pub IsInto : Option ℕ → PageBytes → ℕ → Type 0
IsInto (Some q) pages p = p ≡ q
IsInto None pages p = kind pages p ≡ 0

-- a record that needs a place: of an insert, or of an update if its page has no room for it
abbrev pub NeedsPlace : Op → PageBytes → Type 0
NeedsPlace (Insert r k v) pages = Unit {0}
NeedsPlace (Update r k v) pages =
    (p s : ℕ) (old : List ℕ) → record_in pages p s ≡ Some (record { relation = r; key = k; value = old })
    → IsOutgrown pages p (record { relation = r; key = k; value = old }) (record { relation = r; key = k; value = v })
NeedsPlace _ pages = ⊥

-- each page of a key's bucket is full
abbrev pub IsCrowded : List ℕ → PageBytes → Type 0
IsCrowded key pages = (ns : List ℕ) → Linked (state_of pages).node (named (state_of pages) (hash key)) ns
    → Each (IsFull (state_of pages)) ns

-- an entry that needs a page: of an insert whose key's bucket is full
abbrev pub NeedsEntry : Op → PageBytes → Type 0
NeedsEntry (Insert r k v) pages = IsCrowded k pages
NeedsEntry _ pages = ⊥

-- Each record stands in a page where its key's record stood, or, if it needs a place, in the page for it. A free page
-- is taken only for a record that needs a place, if no page is named, or for an entry that needs a page. Of the other
-- pages, only one of records is given back, and each keeps its kind else.
pub record TakesPages (room : Option ℕ) (op : Op) (pages pages2 : PageBytes) : Type 0 where
  pub stands : (p s : ℕ) (row : Row) → record_in pages2 p s ≡ Some row
      → (IsInto room pages p × NeedsPlace op pages) ⊎ HasStood pages p row.relation row.key
  pub taken : (p : ℕ) → kind pages p ≡ 0 → kind pages2 p ≢ 0
      → ((kind pages2 p ≡ 3) × (room ≡ None) × NeedsPlace op pages) ⊎ ((kind pages2 p ≡ 2) × NeedsEntry op pages)
  pub given : (p : ℕ) → kind pages p ≢ 0 → IsGivenBack (kind pages p) (kind pages2 p)

-- A page that is not at hand keeps its kind, at most so many free pages are taken, and if none may be, pages of
-- records are given back and no other changes its kind; the directory changes only if a bucket may split, and no page
-- is left without a record that had one.
pub record IsModest (at_hand : ℕ → Option (List ℕ)) (total needs : ℕ) (split : Bool)
    (pages pages2 : PageBytes) : Type 0 where
  pub kinds : (p : ℕ) → at_hand p ≡ None → kind pages2 p ≡ kind pages p
  pub takes : free_pages total pages ≤ free_pages total pages2 + needs
  pub gives : needs ≡ 0 → (p : ℕ) → IsGivenBack (kind pages p) (kind pages2 p)
  pub directory : split ≡ false → pages2 1 ≡ pages 1
  pub empties : (p : ℕ) → HasNoRecord pages2 p → HasNoRecord pages p

-- What an operation's changes do to pages on which they were planned: whatever base these hold, the reply is the
-- model's there, and once the changes are made they hold the base that the model leaves, and are as good as before.
pub record IsPlanned (relations counters total : ℕ) (at_hand : ℕ → Option (List ℕ)) (pages : PageBytes)
    (changes : List PageChange) (op : Op) (split : Bool) (reply : Reply) : Type 0 where
  pub replies : (b : Base) → Holds pages b → reply_of b op ≡ reply
  pub base : (b : Base) → Holds pages b → Holds (after changes pages) (base_after b op)
  pub good : IsGood relations counters total (after changes pages)
  pub short : AreShort changes pages
  pub kinds : (p : ℕ) → at_hand p ≡ None → kind (after changes pages) p ≡ kind pages p
  pub takes : free_pages total pages ≤ free_pages total (after changes pages) + own_needs op split
  pub gives : own_needs op split ≡ 0 → (p : ℕ) → IsGivenBack (kind pages p) (kind (after changes pages) p)
  pub directory : split ≡ false → after changes pages 1 ≡ pages 1
  pub empties : (p : ℕ) → HasNoRecord (after changes pages) p → HasNoRecord pages p
  pub small : HasSmallReply reply
