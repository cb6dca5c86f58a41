-- The last pass of a restart: the losers' operations are undone by inverses, the latest end first, and nothing is
-- logged.
use Rattle.std.specs.Prelude.{◌≡◌, ◌+◌, ◌<◌, ◌≤◌, ℕ, false, List, [], ◌∷◌, length, Option, Some, None}
use Rattle.mt_base.specs.declared.limits.TheConstants.{MAX_WRITTEN_PAGES}
use Rattle.std.specs.List.{AllByRecursion}
use Rattle.mt_frame.specs.declared.records.LoggedOp.{LoggedOp}
use Rattle.mt_model.specs.Model.{Base, reply_of, base_after}
use Rattle.mt_space.specs.Changes.{PageBytes, after, AreShort}
use Rattle.mt_space.specs.declared.changes.Changes.{Changes}
use Rattle.mt_space.specs.declared.changes.PageChange.{PageChange}
use Rattle.mt_replay.specs.Memory.{AreFirst, ChangesFew}
use Rattle.mt_steps.specs.Held.{Holds}
use Rattle.mt_file.specs.Rooms.{fits_of}
use Rattle.mt_space.specs.Kinds.{kind}
use Rattle.mt_steps.specs.Plans.{HasNoRecord, IsGood, TakesPages, free_pages, own_needs, record_bytes}
use Rattle.mt_replay.specs.Recorded.{undo_of, reply_back, Finished}
use Rattle.mt_replay.specs.Recoverable.{IsOf}

-- a page of records that takes a record of so many bytes
pub record Takes (total bytes : ℕ) (pages : PageBytes) (p : ℕ) : Type 0 where
  pub inside : p < total
  pub records : kind pages p ≡ 3
  pub fits : bytes ≤ fits_of (pages p)

-- such a page, and none only if there is none
abbrev pub IsRoom : ℕ → ℕ → PageBytes → Option ℕ → Type 0
IsRoom total bytes pages (Some p) = Takes total bytes pages p
IsRoom total bytes pages None = 1 ≤ bytes → (p : ℕ) → Takes total bytes pages p → ⊥

-- The inverse of what is logged is one act on these pages, which finds there what the record says. Its record goes
-- into a page of records with room, and into a new one only if no page has room. It splits no bucket, and gives the
-- page back that it leaves without a record.
pub record UndoesOne (relations counters total : ℕ) (before : PageBytes) (done : LoggedOp)
    (after : PageBytes) : Type 0 where
  pub replies : (b : Base) → Holds before b → reply_of b (undo_of done) ≡ reply_back done
  pub base : (b : Base) → Holds before b → Holds after (base_after b (undo_of done))
  pub good : IsGood relations counters total after
  pub free : free_pages total before ≤ free_pages total after + own_needs (undo_of done) false
  pub room : Option ℕ
  pub is_room : IsRoom total (record_bytes (undo_of done)) before room
  pub takes : TakesPages room (undo_of done) before after
  pub directory : after 1 ≡ before 1
  pub empties : (p : ℕ) → HasNoRecord after p → HasNoRecord before p

-- the latest first, each on the pages that the later ones left
abbrev pub UndoesAll : ℕ → ℕ → ℕ → PageBytes → List Finished → PageBytes → Type 0
UndoesAll relations counters total h [] k = k ≡ h
UndoesAll relations counters total h (f ∷ fs) k =
    (m : PageBytes) × UndoesAll relations counters total h fs m × UndoesOne relations counters total m f.done k

-- the pages let the inverse act: they hold a base in which it finds what the record says, and have free pages for it
pub record Finds (relations counters total : ℕ) (pages : PageBytes) (b : Base) (done : LoggedOp) : Type 0 where
  pub within : IsOf relations counters done
  pub holds : Holds pages b
  pub reply : reply_of b (undo_of done) ≡ reply_back done
  pub free : own_needs (undo_of done) false ≤ free_pages total pages

-- ---- on pages in memory

-- these changes of good pages in memory are the inverse
pub record IsUndoing (items : List (List ℕ)) (done : LoggedOp) (changes : List PageChange) : Type 0 where
  pub inside : AllByRecursion (λ (c : PageChange). c.page < length items) changes
  pub few : length changes ≤ MAX_WRITTEN_PAGES
  pub short : (relations counters : ℕ) (f : PageBytes) → AreFirst items f → IsGood relations counters (length items) f
      → AreShort changes f
  pub undoes : (relations counters : ℕ) (f : PageBytes) → AreFirst items f → IsGood relations counters (length items) f
      → UndoesOne relations counters (length items) f done (after changes f)

-- the inverse of what is logged does not find what the record says
abbrev pub Misses : List (List ℕ) → LoggedOp → Type 0
Misses items done =
    (relations counters : ℕ) (f : PageBytes) → AreFirst items f → IsGood relations counters (length items) f
    → (b : Base) → Finds relations counters (length items) f b done → ⊥

abbrev pub IsUndoPlan : List (List ℕ) → LoggedOp → Option Changes → Type 0
IsUndoPlan items done (Some changes) = IsUndoing items done changes.list.items
IsUndoPlan items done None = Misses items done

-- the inverse has been made, in eight pages at most
pub record Undoes (old : List (List ℕ)) (done : LoggedOp) (new : List (List ℕ)) : Type 0 where
  pub count : length new ≡ length old
  pub few : ChangesFew MAX_WRITTEN_PAGES old new
  pub undone : (relations counters : ℕ) (f : PageBytes) → AreFirst old f → IsGood relations counters (length old) f
      → (k : PageBytes) × AreFirst new k × UndoesOne relations counters (length old) f done k
