-- Which page locks a step of a transaction's operation takes, and which it gives back; and a step of its abort.
use Rattle.std.specs.Prelude.{ℕ, ◌≡◌, ◌⊎◌, ◌<◌, List, length, Some, Result, Ok, Err}
use Rattle.mt_base.specs.declared.refusal.Refusal.{Refusal}
use Rattle.mt_core.specs.Consistent.{AtPlace, IsOwnerOf}
use Rattle.mt_core.specs.PageLocks.{KeepsPageLocks}
use Rattle.mt_core.specs.declared.parts.Core.{Core}
use Rattle.mt_op.specs.declared.scope.OpScope.{OpScope}
use Rattle.mt_core.specs.declared.steps.Going.TheVariants as going
use Rattle.mt_core.specs.declared.steps.Stepping.TheVariants.{Going as GoingOn, Ended}
use Rattle.mt_plock.specs.Releasing.{locks_without}
use Rattle.mt_txn.specs.declared.answers.AbortStepped.{AbortStepped}
use Rattle.mt_txn.specs.declared.answers.AbortStepped.TheVariants as abort
use Rattle.mt_txn.specs.declared.answers.Stepped.{Stepped}
use Rattle.mt_txn.specs.declared.answers.Stepped.TheVariants as step
use Rattle.mt_core.specs.Seen.{core_page_locks}

-- This holds of the operation of t that is under way.
abbrev pub OfRunning : List OpScope → ℕ → (OpScope → Type 0) → Type 0
OfRunning rs t Holds = (place : ℕ) × (place < length rs) × AtPlace rs place (λ r. (r.txn ≡ t) × Holds r)

-- It keeps them as an operation that waits for one of this transaction. That holds a lock in the way.
abbrev pub WaitsFor : {D : Type 0} → Core D → Core D → OpScope → ℕ → Type 0
WaitsFor k n r other = (holder : ℕ) × IsOwnerOf n.running.items holder (Some other)
    × KeepsPageLocks k n r (Ok (GoingOn (going.Wait holder)))

-- It gives its own back, since an operation that holds a lock in the way is smaller.
abbrev pub BeginsAnew : {D : Type 0} → Core D → Core D → OpScope → Type 0
BeginsAnew k n r = (holder : ℕ) × KeepsPageLocks k n r (Ok (GoingOn (going.Again holder)))

-- What a step does to them: what it answers is reported as the step of the parts does.
abbrev pub StepsLocks : {D : Type 0} → Core D → Core D → OpScope → Result Stepped Refusal → Type 0
StepsLocks k n r (Ok (step.Replied reply)) = KeepsPageLocks k n r (Ok (Ended reply))
StepsLocks k n r (Ok step.Went) = KeepsPageLocks k n r (Ok (GoingOn going.Went))
StepsLocks k n r (Ok (step.Wait other)) = WaitsFor k n r other
StepsLocks k n r (Ok step.Again) = BeginsAnew k n r
StepsLocks k n r (Ok step.Flush) = KeepsPageLocks k n r (Ok (GoingOn going.Flush))
StepsLocks k n r (Err why) = KeepsPageLocks k n r (Err why)

-- What a step of an abort does to them, if an operation is under way: it gets one that the plan of its inverse wants
-- next, and no other; or its own go, and no other's; or they stay.
abbrev pub AbortsLocks : {D : Type 0} → Core D → Core D → OpScope → Result AbortStepped Refusal → Type 0
AbortsLocks k n r (Ok abort.More) =
    KeepsPageLocks k n r (Ok (GoingOn going.Went)) ⊎ ((core_page_locks n) ≡ locks_without r.number (core_page_locks k))
AbortsLocks k n r (Ok (abort.Wait other)) = WaitsFor k n r other
AbortsLocks k n r (Ok abort.Again) = BeginsAnew k n r
AbortsLocks k n r (Ok abort.Flush) = core_page_locks n ≡ core_page_locks k
AbortsLocks k n r (Ok abort.Ended) = ⊥
AbortsLocks k n r (Err why) = core_page_locks n ≡ core_page_locks k
