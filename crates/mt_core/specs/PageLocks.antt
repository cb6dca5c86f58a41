-- Which page locks a step of an operation takes, and which it gives back; and of its taking back.
use Rattle.std.specs.Prelude.{◌≡◌, Result, Ok, Err}
use Rattle.mt_base.specs.declared.refusal.Refusal.{Refusal}
use Rattle.mt_op.specs.Holds.{IsNext, KeepsLocks}
use Rattle.mt_op.specs.declared.answers.Stepped.{Stepped}
use Rattle.mt_op.specs.declared.answers.Stepped.TheVariants as stepped
use Rattle.mt_op.specs.declared.answers.TakenBack.{TakenBack}
use Rattle.mt_op.specs.declared.answers.TakenBack.TheVariants as taken
use Rattle.mt_plock.specs.Releasing.{locks_without}
use Rattle.mt_core.specs.declared.parts.Core.{Core}
use Rattle.mt_op.specs.declared.scope.OpScope.{OpScope}
use Rattle.mt_core.specs.declared.steps.Going.{Going}
use Rattle.mt_core.specs.declared.steps.Going.TheVariants as going
use Rattle.mt_core.specs.declared.steps.Stepping.{Stepping}
use Rattle.mt_core.specs.declared.steps.Stepping.TheVariants.{Going as GoingOn, Ended}
use Rattle.mt_core.specs.Seen.{core_page_locks, core_rooms}

-- what the operations answered of one that goes on
abbrev pub step_of : Going → Stepped
step_of going.Went = stepped.Went
step_of (going.Wait holder) = stepped.Wait holder
step_of (going.Again holder) = stepped.Again holder
step_of going.Flush = stepped.Flush

-- They stay but for what its plan asks for next: it gets this lock, and no other; or waits for the smallest operation
-- in the way; or gives all its own back, and no other's, if it begins anew or ends. A refused step leaves all.
abbrev pub KeepsPageLocks : {D : Type 0} → Core D → Core D → OpScope → Result Stepping Refusal → Type 0
KeepsPageLocks k n r (Ok (Ended reply)) = core_page_locks n ≡ locks_without r.number (core_page_locks k)
KeepsPageLocks k n r (Ok (GoingOn g)) = KeepsLocks r.number (IsNext (core_rooms k) (core_page_locks k) r)
    (core_page_locks k) (core_page_locks n) (Ok (step_of g))
KeepsPageLocks k n r (Err why) = core_page_locks n ≡ core_page_locks k

-- They stay while a step of its taking back puts a page back. Once nothing else of it is left its own go, and no
-- other's.
abbrev pub GivesLocksBack : {D : Type 0} → Core D → Core D → OpScope → Result TakenBack Refusal → Type 0
GivesLocksBack k n r (Ok taken.Clear) = core_page_locks n ≡ locks_without r.number (core_page_locks k)
GivesLocksBack k n r (Ok taken.More) = core_page_locks n ≡ core_page_locks k
GivesLocksBack k n r (Ok taken.Flush) = core_page_locks n ≡ core_page_locks k
GivesLocksBack k n r (Err why) = core_page_locks n ≡ core_page_locks k
