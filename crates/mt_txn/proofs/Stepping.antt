-- A step of a transaction is a step of its own operation, of one page at most.
use Rattle.std.proofs.Common.{◌≡◌, ◌⊎◌, ◌<◌, inl, inr, ℕ, List, length, None, Ok, subst}
use Rattle.mt_frame.specs.declared.records.Record.{Record}
use Rattle.mt_op.specs.declared.scope.OpScope.{OpScope}
use Rattle.mt_core.specs.Consistent.{AtPlace, IsOwnerOf}
use Rattle.mt_core.specs.PageLocks.{step_of}
use Rattle.mt_core.specs.Work.{KeepsOthers}
use Rattle.mt_core.specs.Writes.{WritesOnce}
use Rattle.mt_core.specs.declared.steps.Going.{Going}
use Rattle.mt_core.specs.declared.steps.Going.TheVariants as going
use Rattle.mt_txn.proofs.Showing.{at_place}
use Rattle.mt_txn.specs.Work.{IsReportedAs}
use Rattle.mt_txn.specs.Writes.{WritesOnePage}
use Rattle.mt_txn.specs.declared.answers.Stepped.{Stepped}
use Rattle.mt_txn.specs.declared.answers.Stepped.TheVariants as step

-- what is said of the transaction of the operation at a place is said of that transaction
pub others_of : (old new : List OpScope) (place t : ℕ) → place < length old → AtPlace old place (λ r. r.txn ≡ t) → AtPlace old place (λ r. KeepsOthers r.txn old new) → KeepsOthers t old new
others_of old new place t within own others = let at = at_place old place within in subst (λ (u : ℕ). KeepsOthers u old new) (own at.0 at.1) (others at.0 at.1)

-- what it appended is that of the core's step, by the answer that reports it
pub reported_writes : (rs : List OpScope) (old new : List Record) (g : Going) (x : Stepped) → IsReportedAs rs g x → WritesOnce old new (Ok (step_of g)) → WritesOnePage old new (Ok x)
reported_writes rs old new g (step.Replied reply) is w = absurd is
reported_writes rs old new g step.Went is w = subst (λ (h : Going). WritesOnce old new (Ok (step_of h))) is w
reported_writes rs old new g (step.Wait other) is w = subst (λ (h : Going). WritesOnce old new (Ok (step_of h))) is.1 w
reported_writes rs old new g step.Again is w = again is.1
  where
    again : ((g ≡ going.Wait is.0) × IsOwnerOf rs is.0 None) ⊎ (g ≡ going.Again is.0) → new ≡ old
    again (inl x) = subst (λ (h : Going). WritesOnce old new (Ok (step_of h))) x.0 w
    again (inr x) = subst (λ (h : Going). WritesOnce old new (Ok (step_of h))) x w
reported_writes rs old new g step.Flush is w = subst (λ (h : Going). WritesOnce old new (Ok (step_of h))) is w
