-- What the plan of an operation answers.
use Rattle.mt_counters.specs.Counters.{AreCounters}
use Rattle.std.specs.Prelude.{◌≡◌, ◌⊎◌, ◌<◌, ℕ, List, Option, Some}
use Rattle.mt_base.specs.declared.modes.Mode.{Mode}
use Rattle.mt_base.specs.declared.numbers.RecordName.{RecordName}
use Rattle.mt_slots.specs.Page.{Row}
use Rattle.mt_space.specs.declared.changes.PageChange.{PageChange}
use Rattle.mt_space.specs.Changes.{PageBytes, Agrees, after, AreShort}
use Rattle.mt_space.specs.Kinds.{kind}
use Rattle.mt_file.specs.File.{record_in, Adds, Drops, Stays, Moves}
use Rattle.mt_file.specs.Plans.{IsNamed, IsOutgrown}
use Rattle.mt_index.specs.Maps.{Map}
use Rattle.mt_model.specs.declared.operations.Op.{Op}
use Rattle.mt_model.specs.declared.operations.Reply.{Reply}
use Rattle.mt_model.specs.Model.{Base, reply_of, base_after}
use Rattle.mt_steps.specs.Held.{Holds, AreRows}
use Rattle.mt_steps.specs.declared.act.Act.{Act}
use Rattle.mt_steps.specs.declared.act.Act.TheVariants.{Lock, Made, Full, Broken}

-- some good pages agree with what is at hand
abbrev pub HasGood : (ℕ → Option (List ℕ)) → ℕ → ℕ → Type 0
HasGood at_hand relations total =
    (pages : PageBytes) × Agrees at_hand pages × (m : Map) × AreRows relations total pages m

-- it holds of all good pages that agree with what is at hand
abbrev pub InGood : (ℕ → Option (List ℕ)) → ℕ → ℕ → (PageBytes → Map → Type 0) → Type 0
InGood at_hand relations total P =
    (pages : PageBytes) → Agrees at_hand pages → (m : Map) → AreRows relations total pages m → P pages m

-- a page is asked for that is not at hand
abbrev pub IfLock : Act → (ℕ → Mode → Type 0) → Type 0
IfLock (Lock p mode) P = P p mode
IfLock _ P = Unit {0}

abbrev pub IfMade : Act → (List PageChange → Reply → Type 0) → Type 0
IfMade (Made changes reply) P = P changes.list.items reply
IfMade _ P = Unit {0}

abbrev pub IfFull : Act → Type 0 → Type 0
IfFull Full P = P
IfFull _ P = Unit {0}

abbrev pub IfBroken : Act → Type 0 → Type 0
IfBroken Broken P = P
IfBroken _ P = Unit {0}

-- The changes are one act of the operation on these pages: whatever base they hold, the reply is the model's there,
-- and once the changes are made the pages hold the base that the model leaves, and are as good as before.
pub record IsAct (relations total : ℕ) (pages pages2 : PageBytes) (op : Op) (reply : Reply) : Type 0 where
  pub replies : (b : Base) → Holds pages b → reply_of b op ≡ reply
  pub base : (b : Base) → Holds pages b → Holds pages2 (base_after b op)
  pub meaning : Map
  pub good : AreRows relations total pages2 meaning
  pub counters : (counters : ℕ) → AreCounters relations counters (pages 2) → AreCounters relations counters (pages2 2)

-- some pages agree with what is at hand, and have a counters page
abbrev pub HasCounters : (ℕ → Option (List ℕ)) → ℕ → ℕ → Type 0
HasCounters at_hand relations counters =
    (pages : PageBytes) × Agrees at_hand pages × AreCounters relations counters (pages 2)

-- ---- an insert

-- some good pages agree with what is at hand, in which the named page, if one is, holds records; and all such
abbrev pub HasRoomy : (ℕ → Option (List ℕ)) → Option ℕ → ℕ → ℕ → Type 0
HasRoomy at_hand room relations total =
    (pages : PageBytes) × Agrees at_hand pages × (m : Map) × AreRows relations total pages m × IsNamed room pages

abbrev pub InRoomy : (ℕ → Option (List ℕ)) → Option ℕ → ℕ → ℕ → (PageBytes → Map → Type 0) → Type 0
InRoomy at_hand room relations total P = (pages : PageBytes) → Agrees at_hand pages → (m : Map)
    → AreRows relations total pages m → IsNamed room pages → P pages m

-- the record has been put, into a page of records or a free one
pub record IsPlaced (total : ℕ) (pages : PageBytes) (changes : List PageChange) (name : RecordName)
    (row : Row) : Type 0 where
  pub adds : Adds pages (after changes pages) name.page name.slot row
  pub was : (kind pages name.page ≡ 3) ⊎ (kind pages name.page ≡ 0)
  pub inside : name.page < total
  pub short : AreShort changes pages

-- ---- a delete

-- the record has been taken away
pub record IsTaken (pages : PageBytes) (changes : List PageChange) (name : RecordName) (row : Row) : Type 0 where
  pub stood : record_in pages name.page name.slot ≡ Some row
  pub drops : Drops pages (after changes pages) name.page name.slot
  pub short : AreShort changes pages

-- ---- an update

-- the record has been replaced under its name
pub record IsKept (pages : PageBytes) (changes : List PageChange) (name : RecordName) (old row : Row) : Type 0 where
  pub stood : record_in pages name.page name.slot ≡ Some old
  pub stays : Stays pages (after changes pages) name.page name.slot row
  pub short : AreShort changes pages

-- or has moved, since its page has no room for it, within its page or to one of records or a free one
pub record IsMoved (total : ℕ) (pages : PageBytes) (changes : List PageChange) (name to : RecordName)
    (old row : Row) : Type 0 where
  pub stood : record_in pages name.page name.slot ≡ Some old
  pub moves : Moves pages (after changes pages) name.page name.slot to.page to.slot row
  pub outgrown : IsOutgrown pages name.page old row
  pub was : (to.page ≡ name.page) ⊎ (((kind pages to.page ≡ 3) ⊎ (kind pages to.page ≡ 0)) × (to.page < total))
  pub short : AreShort changes pages
