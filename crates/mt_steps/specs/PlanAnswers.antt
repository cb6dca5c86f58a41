-- What the plans of rows answer, each by one definition.
use Rattle.std.specs.Prelude.{◌≡◌, ◌≢◌, ◌⊎◌, ◌+◌, ◌<◌, ◌≤◌, ℕ, Bool, List, [], length, Option, None, Some}
use Rattle.mt_base.specs.declared.limits.TheConstants.{MAX_VALUE_BYTES, MAX_WRITTEN_PAGES}
use Rattle.mt_base.specs.declared.modes.Mode.{Mode}
use Rattle.mt_base.specs.declared.numbers.RecordName.{RecordName}
use Rattle.mt_slots.specs.Page.{Row, Fits}
use Rattle.mt_space.specs.declared.changes.PageChange.{PageChange}
use Rattle.mt_space.specs.Changes.{PageBytes, Agrees, after, AreShort}
use Rattle.mt_space.specs.Kinds.{kind}
use Rattle.mt_file.specs.File.{record_in}
use Rattle.mt_file.specs.Plans.{IsNamed}
use Rattle.mt_index.specs.Maps.{Map}
use Rattle.mt_model.specs.declared.operations.Op.{Op}
use Rattle.mt_model.specs.declared.operations.Reply.{Reply}
use Rattle.mt_steps.specs.Held.{AreRows}
use Rattle.mt_overlay.specs.Overlays.{AreAtHand}
use Rattle.mt_steps.specs.declared.act.Act.{Act}
use Rattle.mt_steps.specs.declared.act.Act.TheVariants.{Lock, Made, Full, Broken}
use Rattle.mt_steps.specs.Acts.{IsAct, IsPlaced, IsTaken, IsMoved}
use Rattle.mt_steps.specs.Plans.{IsGivenBack, HasStood, NeedsEntry, IsModest}
use Rattle.mt_steps.specs.Logged.{logged_of}

-- an answer by cases: a page that is not at hand and is asked for so, changes and a reply of which this holds, or
-- that this is why it is full
abbrev pub PlanAnswers : (ℕ → Option (List ℕ)) → ℕ → (ℕ → Mode → Type 0) → (List PageChange → Reply → Type 0) → Type 0
    → Act → Type 0
PlanAnswers at_hand total Asks Does TooFull (Lock p mode) = (at_hand p ≡ None) × (p < total) × Asks p mode
PlanAnswers at_hand total Asks Does TooFull (Made changes reply) = Does changes.list.items reply
PlanAnswers at_hand total Asks Does TooFull Full = TooFull
PlanAnswers at_hand total Asks Does TooFull Broken = ⊥

-- a page that is wanted so in all good pages that are so
abbrev pub IsWanted : (ℕ → Option (List ℕ)) → ℕ → (ℕ → PageBytes → Map → Type 0) → (PageBytes → ℕ → Mode → Type 0) → ℕ
    → Mode → Type 0
IsWanted at_hand total IsSo Wants p mode =
    (relations : ℕ) (pages : PageBytes) → Agrees at_hand pages → (m : Map) → AreRows relations total pages m
    → IsSo relations pages m → Wants pages p mode

-- none is
abbrev pub AsksForNone : ℕ → Mode → Type 0
AsksForNone p mode = ⊥

-- the changes of both plans, and the reply
pub record IsJoined (at_hand : ℕ → Option (List ℕ)) (first second : List PageChange) (reply : Reply)
    (changes : List PageChange) (outcome : Reply) : Type 0 where
  pub same : outcome ≡ reply
  pub there : AreAtHand at_hand changes
  pub few : length changes ≤ length first + length second
  pub leads : (pages : PageBytes) → Agrees at_hand pages
      → (after changes pages ≡ after second (after first pages)) × AreShort changes pages

-- changes that are an act of the operation on these pages, and keep this of them
pub record Does (at_hand : ℕ → Option (List ℕ)) (relations total needs : ℕ) (split : Bool) (op : Op)
    (Keeps : PageBytes → PageBytes → Type 0) (pages : PageBytes) (changes : List PageChange)
    (reply : Reply) : Type 0 where
  pub act : IsAct relations total pages (after changes pages) op reply
  pub short : AreShort changes pages
  pub modest : IsModest at_hand total needs split pages (after changes pages)
  pub keeps : Keeps pages (after changes pages)

-- an operation's changes of pages at hand, which are an act of it on all good pages that are so
pub record IsDone (at_hand : ℕ → Option (List ℕ)) (total needs : ℕ) (split : Bool) (op : Op)
    (Keeps : PageBytes → PageBytes → Type 0) (IsSo : ℕ → PageBytes → Map → Type 0) (changes : List PageChange)
    (reply : Reply) : Type 0 where
  pub there : AreAtHand at_hand changes
  pub few : length changes ≤ MAX_WRITTEN_PAGES
  pub idle : logged_of op reply ≡ None → changes ≡ []
  pub does : (relations : ℕ) (pages : PageBytes) → Agrees at_hand pages → (m : Map) → AreRows relations total pages m
      → IsSo relations pages m → Does at_hand relations total needs split op Keeps pages changes reply

-- ---- what is kept of the pages

-- each record stands in a page where its key's record stood, and no page is taken
pub record TakesNone (pages pages2 : PageBytes) : Type 0 where
  pub stands : (p s : ℕ) (row : Row) → record_in pages2 p s ≡ Some row → HasStood pages p row.relation row.key
  pub free : (p : ℕ) → kind pages p ≡ 0 → kind pages2 p ≡ 0
  pub given : (p : ℕ) → kind pages p ≢ 0 → IsGivenBack (kind pages p) (kind pages2 p)

-- the same but for the record of one key, which stands in page q: that page may be taken for it
pub record TakesAlone (q r : ℕ) (k : List ℕ) (op : Op) (pages pages2 : PageBytes) : Type 0 where
  pub stands : (p s : ℕ) (row : Row) → record_in pages2 p s ≡ Some row
      → ((p ≡ q) × (row.relation ≡ r) × (row.key ≡ k)) ⊎ HasStood pages p row.relation row.key
  pub taken : (p : ℕ) → kind pages p ≡ 0 → kind pages2 p ≢ 0
      → ((kind pages2 p ≡ 3) × (p ≡ q)) ⊎ ((kind pages2 p ≡ 2) × NeedsEntry op pages)
  pub given : (p : ℕ) → kind pages p ≢ 0 → IsGivenBack (kind pages p) (kind pages2 p)

-- ---- which pages are so

-- any
abbrev pub IsAny : ℕ → PageBytes → Map → Type 0
IsAny relations pages m = Unit {0}

-- the row fits the schema, and the page that is named for it, if one is, holds records
abbrev pub TakesRow : Option ℕ → Row → ℕ → PageBytes → Map → Type 0
TakesRow room row relations pages m = Fits relations MAX_VALUE_BYTES row × IsNamed room pages

-- the page that is named for it does
abbrev pub HasRoom : Option ℕ → ℕ → PageBytes → Map → Type 0
HasRoom room relations pages m = IsNamed room pages

-- the record of a key without one has been put
abbrev pub HasPlaced : ℕ → List PageChange → RecordName → Row → ℕ → PageBytes → Map → Type 0
HasPlaced total first name row relations pages m =
    Fits relations MAX_VALUE_BYTES row × (m row.relation row.key ≡ None) × IsPlaced total pages first name row

-- the record of a key has moved
abbrev pub HasMoved : ℕ → List PageChange → RecordName → RecordName → Row → Row → ℕ → PageBytes → Map → Type 0
HasMoved total first name to old row relations pages m = Fits relations MAX_VALUE_BYTES row
    × (m row.relation row.key ≡ Some name) × IsMoved total pages first name to old row

-- the record of a key has been taken away
abbrev pub HasTaken : List PageChange → RecordName → Row → ℕ → PageBytes → Map → Type 0
HasTaken first name row relations pages m = (m row.relation row.key ≡ Some name) × IsTaken pages first name row
