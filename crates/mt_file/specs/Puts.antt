-- What the plans of a record more and of a record that moves share.
use Rattle.std.specs.Prelude.{ℕ, List, [], Option, Result, IfOk, IsSome, length, ◌+◌, ◌≡◌, ◌≢◌, ◌≤◌, Some}
use Rattle.std.specs.declared.alloc.AllocError.{AllocError}
use Rattle.mt_space.specs.declared.changes.PageChange.{PageChange}
use Rattle.mt_file.specs.declared.step.Plan.{Plan}
use Rattle.mt_file.specs.declared.step.Step.{Step}
use Rattle.mt_file.specs.Plans.{IfDone, IsApart, IsFew, IsPut, IsReady, IsSeen, IsShortPlan, IsWhole, IsNamed, IsReplacement}
use Rattle.mt_space.specs.Changes.{PageBytes, after, AreShort, IsUntouched, Agrees}
use Rattle.mt_slots.specs.Page.{Row}
use Rattle.mt_file.specs.File.{IsFile, record_in}

-- A record more, after these changes: in the page that is named, or in a new one.
pub record PutsRecord (at_hand : ℕ → Option (List ℕ)) (total : ℕ) (room : Option ℕ) (before : List PageChange)
    (row : Row) (r : Result Step AllocError) : Type 0 where
  pub put : IfOk r (λ step. (pages : PageBytes) → IsReady at_hand room (after before pages)
      → IsPut at_hand room total before pages row step)
  pub short : IfOk r (λ step. (pages : PageBytes) → IsReady at_hand room (after before pages)
      → IsApart room before pages → IsShortPlan pages step)
  pub few : IfOk r (IsFew (length before + 2))
  pub seen : IfOk r (λ step. IfDone step (λ plan. IsSome (at_hand plan.name.page)))
  pub there : IfOk r (IsSeen at_hand before)

-- The plan writes a page whole, with this record alone in it.
pub record WritesWhole (at : ℕ) (old : List ℕ) (row : Row) (plan : Plan) : Type 0 where
  pub page : plan.name.page ≡ at
  pub whole : (pages : PageBytes) → pages at ≡ old → IsWhole pages (after plan.changes.list.items pages) at
      plan.name.slot row
  pub short : (pages : PageBytes) → pages at ≡ old → AreShort plan.changes.list.items pages
  pub few : length plan.changes.list.items ≤ 1
  pub others : (p : ℕ) → p ≢ at → IsUntouched plan.changes.list.items p

-- The record of this name has another value, on the page that is named, or on a new one.
pub record MovesRecord (at_hand : ℕ → Option (List ℕ)) (total : ℕ) (room : Option ℕ) (page slot : ℕ) (value : List ℕ)
    (r : Result Step AllocError) : Type 0 where
  pub replacement : IfOk r (λ step. (pages : PageBytes) (row : Row) → Agrees at_hand pages → IsFile pages
      → IsNamed room pages → record_in pages page slot ≡ Some row
      → IsReplacement at_hand room total pages page slot row (record row { value = value }) step)
  pub short : IfOk r (λ step. (pages : PageBytes) (row : Row) → Agrees at_hand pages → IsFile pages → IsNamed room pages
      → record_in pages page slot ≡ Some row → IsShortPlan pages step)
  pub few : IfOk r (IsFew 3)
  pub seen : IfOk r (λ step. IfDone step (λ plan. IsSome (at_hand page) × IsSome (at_hand plan.name.page)))
  pub there : IfOk r (IsSeen at_hand [])
