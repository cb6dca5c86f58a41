-- What a step of an operation does, and of an inverse.
use Rattle.std.specs.Prelude.{ℕ, ◌≡◌, ◌≢◌, List, Some, Result, Ok, Err, ⊤, slice_index_or}
use Rattle.mt_disk.specs.declared.device.Device.{Ghosts}
use Rattle.mt_base.specs.declared.refusal.Refusal.{Refusal}
use Rattle.mt_disk.specs.Disk.{LeavesOnly}
use Rattle.mt_model.specs.Model.{Base, reply_of}
use Rattle.mt_op.specs.declared.answers.Stepped.{Stepped}
use Rattle.mt_op.specs.declared.answers.Stepped.TheVariants as stepped
use Rattle.mt_pool.specs.Kept.{IsKept, Explains}
use Rattle.mt_pool.specs.Views.{IsFull}
use Rattle.mt_space.specs.Changes.{PageBytes}
use Rattle.mt_core.specs.Consistent.{Origin, state_of, IsIn, EndsIn, InvertsIn, state_in, IsOwnerOf}
use Rattle.mt_core.specs.declared.parts.Core.{Core}
use Rattle.mt_op.specs.declared.scope.OpScope.{OpScope}
use Rattle.mt_core.specs.declared.steps.Going.{Going}
use Rattle.mt_core.specs.declared.steps.Going.TheVariants as going
use Rattle.mt_core.specs.declared.steps.Stepping.{Stepping}
use Rattle.mt_core.specs.declared.steps.Stepping.TheVariants.{Going as GoingOn, Ended}
use Rattle.mt_core.specs.Seen.{core_device, core_pool, core_store}

-- It ends, with the model's reply on the base; or the base and all that stands are as before.
abbrev pub Steps : {D : Type 0} → Ghosts D → Origin → Base → Core D → Core D → ℕ → Result Stepping Refusal → Type 0
Steps g origin base k n place (Ok (Ended reply)) =
    (r : OpScope) → r ≡ slice_index_or k.running.items place r
    → (reply_of base r.op ≡ reply) × EndsIn g origin base k n r
Steps g origin base k n place (Ok (GoingOn going)) = IsIn g origin base (state_of k base) n
Steps g origin base k n place (Err why) = IsIn g origin base (state_of k base) n

-- It ends, with the model's reply. In an abort what it takes back stands no more; in a transaction that goes on both
-- stay. Or the base and all that stands are as before.
abbrev pub UndoSteps : {D : Type 0} → Ghosts D → Origin → Base → Core D → Core D → ℕ → Result Stepping Refusal → Type 0
UndoSteps g origin base k n place (Ok (Ended reply)) =
    (r : OpScope) → r ≡ slice_index_or k.running.items place r
    → (reply_of base r.op ≡ reply)
    × InvertsIn g origin base (state_of k base) n r.txn r.op (state_in k.live.members r.txn)
UndoSteps g origin base k n place (Ok (GoingOn going)) = IsIn g origin base (state_of k base) n
UndoSteps g origin base k n place (Err why) = IsIn g origin base (state_of k base) n

-- Whenever a crash comes meanwhile, what it leaves explains the pages as before.
abbrev pub LeavesExplained : {D : Type 0} → Ghosts D → Core D → Core D → Type 0
LeavesExplained g k n =
    (opening : PageBytes) → IsKept g opening (core_store k)
    → LeavesOnly g.moment g.left_since (core_device k) (core_device n) (Explains opening (core_store k))

-- Every frame holds a page that is yet to be flushed; pages, locks and log are as they were.
abbrev pub WantsFrame : {D : Type 0} → Core D → Core D → Type 0
WantsFrame k n = IsFull (core_pool k) × (n.operations ≡ k.operations)

-- ---- who is in the way

-- the operation of this number is under way, of another transaction than t
abbrev pub IsOfOther : List OpScope → ℕ → ℕ → Type 0
IsOfOther rs t number = (u : ℕ) × (u ≢ t) × IsOwnerOf rs number (Some u)

-- An operation of t waits, or begins anew, only for one of another transaction.
abbrev pub AwaitsOther : List OpScope → ℕ → Going → Type 0
AwaitsOther rs t going.Went = ⊤
AwaitsOther rs t (going.Wait holder) = IsOfOther rs t holder
AwaitsOther rs t (going.Again holder) = IsOfOther rs t holder
AwaitsOther rs t going.Flush = ⊤

abbrev pub NamesOther : List OpScope → ℕ → Result Stepping Refusal → Type 0
NamesOther rs t (Ok (Ended reply)) = ⊤
NamesOther rs t (Ok (GoingOn g)) = AwaitsOther rs t g
NamesOther rs t (Err why) = ⊤

-- the same of what a step of the operations answers
abbrev pub StepNamesOther : List OpScope → ℕ → Result Stepped Refusal → Type 0
StepNamesOther rs t (Ok stepped.Went) = ⊤
StepNamesOther rs t (Ok (stepped.Wait holder)) = IsOfOther rs t holder
StepNamesOther rs t (Ok (stepped.Again holder)) = IsOfOther rs t holder
StepNamesOther rs t (Ok stepped.Flush) = ⊤
StepNamesOther rs t (Ok (stepped.Ready first second)) = ⊤
StepNamesOther rs t (Err why) = ⊤
