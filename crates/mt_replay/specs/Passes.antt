-- What the passes over records make of pages in memory.
use Rattle.std.specs.Prelude.{◌≡◌, ◌==◌, if◌then◌else◌, ℕ, ◌+◌, ◌<◌, ◌≤◌, Bool, true, false, not, ◌&&◌, ◌||◌, Option, None, Some, List, [], ◌∷◌, ◌++◌, length, map, filter, get_or, Vec}
use Rattle.std.specs.BTreeMap.{get}
use Rattle.std.specs.BTreeSet.{contains}
use Rattle.std.specs.Global.{Global}
use Rattle.std.specs.List.{AllByRecursion}
use Rattle.std.specs.Ordering.{nat_cmp}
use Rattle.mt_base.specs.Edits.{splice}
use Rattle.mt_base.specs.declared.limits.TheConstants.{PAGE_BYTES}
use Rattle.mt_area_rules.specs.History.{some_record}
use Rattle.mt_frame.specs.declared.records.Record.{Record}
use Rattle.mt_frame.specs.declared.records.Record.TheVariants.{Page, OpEnd, OpDropped, Commit, AbortEnd}
use Rattle.mt_pool.specs.Images.{has_image, page_in}
use Rattle.mt_pool.specs.Kept.{carried}
use Rattle.mt_space.specs.Changes.{PageBytes}
use Rattle.mt_steps.specs.Repeated.{Change, Repeated, by, put_back}
use Rattle.mt_replay.specs.declared.images.Images.{Images}
use Rattle.mt_replay.specs.declared.repeat.Unfinished.{Unfinished}
use Rattle.mt_replay.specs.declared.repeat.Repeating.{Repeating}
use Rattle.mt_replay.specs.declared.repeat.TakingBack.{TakingBack}
use Rattle.mt_space.specs.PageLists.{AreWhole}
use Rattle.mt_replay.specs.Marking.{MarksImaged}
use Rattle.mt_replay.specs.Memory.{AreFirst}

-- ---- images

-- whole pages, each with a mark
pub record HasMarks (x : Images) : Type 0 where
  pub whole : AreWhole x.pages.items
  pub size : length x.imaged.items ≡ length x.pages.items

-- The first images of the records lie over the pages, and the pages of which they carry one are marked too.
pub record Lays (records : List Record) (old new : Images) : Type 0 where
  pub whole : AreWhole new.pages.items
  pub count : length new.pages.items ≡ length old.pages.items
  pub size : length new.imaged.items ≡ length old.imaged.items
  pub laid : (p : ℕ) → p < length old.pages.items
      → get_or new.pages.items p [] ≡ page_in (carried records) p (get_or old.pages.items p [])
  pub imaged : (p : ℕ) → p < length old.imaged.items
      → get_or new.imaged.items p false ≡ (has_image (carried records) p || get_or old.imaged.items p false)

-- marked are those of so many pages of which the records carry an image, and each of these is its first one
pub record AreFirstImages (n : ℕ) (records : List Record) (x : Images) : Type 0 where
  pub whole : AreWhole x.pages.items
  pub count : length x.pages.items ≡ n
  pub imaged : MarksImaged n records x.imaged.items
  pub laid : (p : ℕ) → p < n → has_image (carried records) p ≡ true → (bytes : List ℕ)
      → get_or x.pages.items p [] ≡ page_in (carried records) p bytes

-- ---- history repeated

-- bytes of one page, as they were before a change
pub record Before : Type 0 where
  pub page : ℕ
  pub start : ℕ
  pub old : List ℕ

abbrev pub before : Change → Before
before c = record { page = c.page; start = c.start; old = c.old }

abbrev pub before_of : Unfinished → Before
before_of u = record { page = u.page; start = u.start; old = u.old.now }

-- the change of an operation that puts these bytes there
abbrev pub change_of : ℕ → Unfinished → List ℕ → Change
change_of op u new = record { op = op; page = u.page; start = u.start; old = u.old.now; new = new }

-- pages with bytes as they were, the last ones put there first
abbrev pub with_before : List Before → PageBytes → PageBytes
with_before [] pages = pages
with_before (b ∷ bs) pages =
    λ p. if b.page == p then splice b.start b.old (with_before bs pages p) else with_before bs pages p

-- what the changes in memory of an operation replaced
abbrev pub replaced_in : Option (Vec Unfinished Global) → List Before
replaced_in None = []
replaced_in (Some list) = map before_of list.items

abbrev pub replaced_at : Repeating → ℕ → List Before
replaced_at r o = replaced_in (get nat_cmp r.unfinished o)

-- what is in memory is this, as far as there are pages
pub record IsShown (r : Repeating) (x : Repeated) : Type 0 where
  pub pages : AreFirst r.pages.items x.pages
  pub unfinished : (o : ℕ) → replaced_at r o ≡ map before (by o x.unfinished)

-- a change lies within a page that is there
pub record Fits (total : ℕ) (u : Unfinished) : Type 0 where
  pub inside : u.page < total
  pub range : u.start + length u.old.now ≤ PAGE_BYTES

abbrev pub AllFit : ℕ → Option (Vec Unfinished Global) → Type 0
AllFit total None = Unit {0}
AllFit total (Some list) = AllByRecursion (Fits total) list.items

-- whole pages, and changes that lie within them
pub record IsWhole (r : Repeating) : Type 0 where
  pub each : AreWhole r.pages.items
  pub fits : (o : ℕ) → AllFit (length r.pages.items) (get nat_cmp r.unfinished o)

-- the changes of an operation are these, and no longer in memory
pub record Takes (op : ℕ) (list : List Unfinished) (old new : Repeating) : Type 0 where
  pub whole : IsWhole new
  pub pages : new.pages ≡ old.pages
  pub own : map before_of list ≡ replaced_at old op
  pub fits : AllByRecursion (Fits (length old.pages.items)) list
  pub left : (o : ℕ) → replaced_at new o ≡ (if op == o then [] else replaced_at old o)

-- a change of an operation is in memory too, after its others
pub record Notes (op : ℕ) (change : Unfinished) (old new : Repeating) : Type 0 where
  pub whole : IsWhole new
  pub pages : new.pages ≡ old.pages
  pub noted : (o : ℕ) → replaced_at new o ≡ replaced_at old o ++ (if op == o then before_of change ∷ [] else [])

-- the bytes are as they were, the last ones put there first
pub record PutsBack (bytes : List Before) (old new : List (List ℕ)) : Type 0 where
  pub whole : AreWhole new
  pub count : length new ≡ length old
  pub back : (f : PageBytes) → AreFirst old f → AreFirst new (with_before bytes f)

-- whatever was in memory, it is in memory as this step leaves it
pub record Repeats (step : Repeated → Repeated) (old new : Repeating) : Type 0 where
  pub whole : IsWhole new
  pub count : length new.pages.items ≡ length old.pages.items
  pub shown : (x : Repeated) → IsShown old x → IsShown new (step x)

-- ---- what is unfinished, found from the last record on

-- the operation has ended or was taken back
abbrev pub ends_it : ℕ → Record → Bool
ends_it o (Page txn op page image start old new) = false
ends_it o (OpEnd txn op undoes done) = op == o
ends_it o (OpDropped txn op) = op == o
ends_it o (Commit txn) = false
ends_it o (AbortEnd txn) = false

-- the change that a record is
abbrev pub change_by : Record → List Change
change_by (Page txn op page image start old new) =
    if txn == 0 then [] else record { op = op; page = page; start = start; old = old; new = new } ∷ []
change_by (OpEnd txn op undoes done) = []
change_by (OpDropped txn op) = []
change_by (Commit txn) = []
change_by (AbortEnd txn) = []

-- no record ends its operation
abbrev pub stays : List Record → Change → Bool
stays rs c = not (some_record (ends_it c.op) rs)

-- the changes whose operations do not end after them
abbrev pub left : List Record → List Change
left [] = []
left (r ∷ rs) = filter (stays rs) (change_by r) ++ left rs

-- all are of operations that are known to be unfinished
abbrev pub AreKnown : (ℕ → Bool) → List Change → Type 0
AreKnown known cs = AllByRecursion (λ (c : Change). known c.op ≡ true) cs

-- these pages, with what the records leave unfinished put back, are in memory, and the known operations that do not
-- end there
pub record IsBackTo (known : ℕ → Bool) (t : TakingBack) (records : List Record) (f : PageBytes) : Type 0 where
  pub pages : AreFirst t.pages.items (put_back (left records) f)
  pub open_ones : (o : ℕ) → contains nat_cmp t.«open» o ≡ (known o && not (some_record (ends_it o) records))

-- so with these records before the others, if the operations of what they leave unfinished are known
pub record Backs (records : List Record) (old new : TakingBack) : Type 0 where
  pub whole : AreWhole new.pages.items
  pub count : length new.pages.items ≡ length old.pages.items
  pub back : (known : ℕ → Bool) (behind : List Record) (f : PageBytes) → AreKnown known (left (records ++ behind))
      → IsBackTo known old behind f → IsBackTo known new (records ++ behind) f
