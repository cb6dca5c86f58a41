-- What a step leaves that goes on, in whichever way.
use Rattle.std.proofs.Common.{◌≡◌, ◌+◌, ℕ, Result, Ok, List, arith}
use Rattle.std.proofs.Props.{props}
use Rattle.mt_disk.specs.declared.device.Device.{Ghosts}
use Rattle.mt_base.specs.declared.refusal.Refusal.{Refusal}
use Rattle.mt_model.specs.Model.{Base}
use Rattle.mt_live.specs.Machine.{State}
use Rattle.mt_op.specs.Work.{Works, work_of}
use Rattle.mt_op.specs.declared.scope.OpScope.{OpScope}
use Rattle.mt_core.specs.Consistent.{Advances, IsIn, Origin}
use Rattle.mt_core.specs.PageLocks.{step_of}
use Rattle.mt_core.specs.Restartable.{QuietlyAppends, StepAppends}
use Rattle.mt_core.specs.Steps.{AwaitsOther, StepNamesOther}
use Rattle.mt_core.specs.Work.{LeavesSteps}
use Rattle.mt_core.specs.declared.parts.Core.{Core}
use Rattle.mt_core.specs.declared.steps.Going.{Going}
use Rattle.mt_core.specs.declared.steps.Going.TheVariants as going
use Rattle.mt_core.specs.declared.steps.Stepping.{Stepping}
use Rattle.mt_core.specs.declared.steps.Stepping.TheVariants.{Going as GoingOn}

pub lowers_on : (g : Going) (total rest before now : ℕ) (x q : OpScope) → Works x q (Ok (step_of g)) → before ≡ work_of x + rest → now ≡ work_of q + rest → x.seen.total ≡ total → LeavesSteps total g before now
lowers_on going.Went total rest before now x q less b a t = omega (arith, less, b, a)
lowers_on (going.Wait holder) total rest before now x q less b a t = omega (arith, less, b, a)
lowers_on (going.Again holder) total rest before now x q less b a t = omega (arith, less, b, a, t)
lowers_on going.Flush total rest before now x q less b a t = omega (arith, less, b, a)

pub lowers_prop : (g : Going) (total before now : ℕ) → IsProp (LeavesSteps total g before now)
lowers_prop going.Went total before now = hlevel props
lowers_prop (going.Wait holder) total before now = hlevel props
lowers_prop (going.Again holder) total before now = hlevel props
lowers_prop going.Flush total before now = hlevel props

pub other_on : (g : Going) (rs : List OpScope) (t : ℕ) → StepNamesOther rs t (Ok (step_of g)) → AwaitsOther rs t g
other_on going.Went rs t other = tt
other_on (going.Wait holder) rs t other = other
other_on (going.Again holder) rs t other = other
other_on going.Flush rs t other = tt

module _ {D : Type 0} (origin : Origin) (k n : Core D) (q : OpScope) where
  pub quiet_on : (g : Going) → StepAppends origin k n q (Ok (step_of g)) → QuietlyAppends origin.pages k n
  quiet_on going.Went s = record { area = s.area; appends = s.appends }
  quiet_on (going.Wait holder) s = record { area = s.area; appends = s.appends }
  quiet_on (going.Again holder) s = record { area = s.area; appends = s.appends }
  quiet_on going.Flush s = record { area = s.area; appends = s.appends }

module _ {D : Type 0} (g : Ghosts D) (origin : Origin) (base : Base) (s : State) (n : Core D) (place : ℕ) where
  pub in_on : (way : Going) → Advances g origin base s n place (Ok (step_of way)) → IsIn g origin base s n
  in_on going.Went made = made
  in_on (going.Wait holder) made = made
  in_on (going.Again holder) made = made
  in_on going.Flush made = made

pub same_going : (a b : Going) (r : Result Stepping Refusal) → r ≡ Ok (GoingOn a) → r ≡ Ok (GoingOn b) → a ≡ b
same_going a b r one other = cc
