-- How many steps an operation has left, if nobody is in its way.
use Rattle.std.specs.Prelude.{◌≡◌, ◌⊎◌, ◌<◌, ◌≤◌, ◌+◌, ◌-◌, ◌*◌, ◌==◌, ◌&&◌, ℕ, zero, suc, List, length, Bool, true, false, if◌then◌else◌, Option, Some, None, is_some, Result, Ok, Err}
use Rattle.std.specs.List.{list_any}
use Rattle.mt_base.specs.declared.modes.Mode.{Mode}
use Rattle.mt_base.specs.declared.modes.Mode.TheVariants.{Read, Write}
use Rattle.mt_base.specs.declared.refusal.Refusal.{Refusal}
use Rattle.mt_plock.specs.declared.guards.PageLock.{PageLock}
use Rattle.mt_op.specs.World.{looked, changes_in}
use Rattle.mt_op.specs.declared.answers.Stepped.{Stepped}
use Rattle.mt_op.specs.declared.answers.Stepped.TheVariants as stepped
use Rattle.mt_op.specs.declared.scope.OpScope.{OpScope}
use Rattle.mt_op.specs.declared.scope.Stage.{Stage}
use Rattle.mt_op.specs.declared.scope.Stage.TheVariants.{Planning, Writing, Ready, Taking, Cleared}

-- the sum of a function over the numbers below one
abbrev pub sum_below : ℕ → (ℕ → ℕ) → ℕ
sum_below zero f = 0
sum_below (suc n) f = sum_below n f + f n

abbrev pub writes : Mode → Bool
writes Read = false
writes Write = true

-- whether one of these locks is of this page, to write it
abbrev pub is_written : List PageLock → ℕ → Bool
is_written locks p = list_any (λ (l : PageLock). (l.page == p) && writes l.mode) locks

-- a page that is not looked at may take two steps, and one that is not locked to write takes one
abbrev pub steps_for : OpScope → ℕ → ℕ
steps_for s p = if is_some (looked s p) then (if is_written s.guards.items p then 0 else 1) else 2

-- While it plans, the page that it was led to may turn out full; then at most eight pages are written, and it ends.
abbrev pub work_at : OpScope → Stage → ℕ
work_at s Planning = sum_below s.seen.total (steps_for s) + (if is_some s.room then 1 else 0) + 9
work_at s Writing = length (changes_in s) - s.written + 1
work_at s Ready = 0
work_at s Taking = 0
work_at s Cleared = 0

abbrev pub work_of : OpScope → ℕ
work_of s = work_at s s.stage

-- A step that goes on leaves less of it. One that begins anew may leave more, but never more than two steps a page.
-- Every other leaves no more.
abbrev pub Works : OpScope → OpScope → Result Stepped Refusal → Type 0
Works s t (Ok stepped.Went) = work_of t < work_of s
Works s t (Ok (stepped.Wait holder)) = work_of t ≤ work_of s
Works s t (Ok (stepped.Again holder)) = work_of t ≤ work_of s + 2 * s.seen.total
Works s t (Ok stepped.Flush) = work_of t ≤ work_of s
Works s t (Ok (stepped.Ready first second)) = work_of t ≡ 0
Works s t (Err why) = work_of t ≤ work_of s

-- the same of a step that plans; if it answers nothing the plan is made
abbrev pub WorksOn : OpScope → OpScope → Result (Option Stepped) Refusal → Type 0
WorksOn s t (Ok (Some answer)) = Works s t (Ok answer)
WorksOn s t (Ok None) = work_of t ≤ work_of s
WorksOn s t (Err why) = work_of t ≤ work_of s

-- ---- the stage after a step

abbrev pub IsGoing : Stage → Type 0
IsGoing stage = (stage ≡ Planning) ⊎ (stage ≡ Writing)

-- if it has ended it is ready, and otherwise it may make another step
abbrev pub ComesTo : Stage → Result Stepped Refusal → Type 0
ComesTo stage (Ok (stepped.Ready first second)) = stage ≡ Ready
ComesTo stage (Ok stepped.Went) = IsGoing stage
ComesTo stage (Ok (stepped.Wait holder)) = IsGoing stage
ComesTo stage (Ok (stepped.Again holder)) = IsGoing stage
ComesTo stage (Ok stepped.Flush) = IsGoing stage
ComesTo stage (Err why) = IsGoing stage
