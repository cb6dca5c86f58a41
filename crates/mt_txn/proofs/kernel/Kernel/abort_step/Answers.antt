use Rattle.std.proofs.Common.{◌≡◌, ◌∙◌, Bool, Option, true, Some, None, ap, refl, sym, subst}
use Rattle.mt_live.specs.declared.transactions.TxnState.{TxnState}
use Rattle.mt_txn.specs.Events.{InvertsTo}
use Rattle.std.specs.Prelude.{◌||◌}
use Rattle.mt_base.specs.declared.refusal.Refusal.TheVariants.{DeviceFailed}
use Rattle.mt_log.specs.Words.{has_failed}
use Rattle.mt_txn.specs.Causes.{abort_cause}
use Rattle.mt_txn.specs.Shown.{is_failed, Shows}
use Rattle.mt_txn.proofs.Restarting.{no_call}
use Rattle.std.proofs.Common.{rules}
use Rattle.mt_txn.specs.Writes.{LogsEnd}
use Rattle.mt_txn.proofs.Answering.{inverse_logs}
use Rattle.mt_txn.proofs.kernel.Kernel.abort_step.Goals as goal

pub returns-in-Some-clause-moments : goal.returns-in-Some-clause-moments
returns-in-Some-clause-moments g c = λ first r schema. let D = g.D.Device in let k = c.args.self.now in
    no_call D k.relations k.counters first g.met.D.Device.only_now k.core _ refl r schema

pub returns-in_default-place_of-clause-fails : goal.returns-in_default-place_of-clause-fails
returns-in_default-place_of-clause-fails g c =
    let k = c.args.self.now in
    let none : abort_cause (is_failed k) k.core c.args.txn ≡ None = sym c.in_default.ensures.cause in (
      λ failed. let wrong : Some DeviceFailed ≡ None = sym (ap (λ (b : Bool). abort_cause b k.core c.args.txn) failed) ∙ none in absurd cc,
      c.undo_next.ensures.steps.fails,
      λ marked.
          let failed : is_failed k ≡ true = ap (λ (b : Bool). b || has_failed k.core.operations.store.log) (sym c.undo_next.ensures.marks ∙ marked) in
          let wrong : Some DeviceFailed ≡ None = sym (ap (λ (b : Bool). abort_cause b k.core c.args.txn) failed) ∙ none in absurd cc,
    )

pub returns-then-is_inverse-clause-fails : goal.returns-then-is_inverse-clause-fails
returns-then-is_inverse-clause-fails g c =
    let k = c.args.self.now in
    let none : abort_cause (is_failed k) k.core c.args.txn ≡ None = sym c.in_default.ensures.cause in (
      λ failed. let wrong : Some DeviceFailed ≡ None = sym (ap (λ (b : Bool). abort_cause b k.core c.args.txn) failed) ∙ none in absurd cc,
      c.undo_step.ensures.steps.fails,
      c.undo_step.ensures.marks,
    )

pub returns-else-is_inverse-clause-fails : goal.returns-else-is_inverse-clause-fails
returns-else-is_inverse-clause-fails g c =
    let k = c.args.self.now in
    let none : abort_cause (is_failed k) k.core c.args.txn ≡ None = sym c.in_default.ensures.cause in (
      λ failed. let wrong : Some DeviceFailed ≡ None = sym (ap (λ (b : Bool). abort_cause b k.core c.args.txn) failed) ∙ none in absurd cc,
      c.take_back.ensures.steps.fails,
      c.take_back.ensures.marks,
    )

pub returns-then-is_inverse-clause-aborted : goal.returns-then-is_inverse-clause-aborted
returns-then-is_inverse-clause-aborted g c = λ first s shows. let k = c.args.self.now in let n = c.undo_step.new.self in
    subst (λ (state : Option TxnState). InvertsTo (λ z. Shows first z n) s c.args.txn state c.undo_step.result) c.in_default.ensures.aborting (c.undo_step.ensures.steps.leads first s shows)

pub returns-then-is_inverse-clause-leaves : goal.returns-then-is_inverse-clause-leaves
returns-then-is_inverse-clause-leaves g c = record {
  states = search rules;
  ends = search rules;
  err_states = search rules;
  idle = search rules;
  writes = inverse_logs (LogsEnd c.args.txn) _ _ c.undo_step.result c.undo_step.ensures.steps.ends c.undo_step.ensures.writes;
  durable = search rules;
  commits = search rules;
  numbers = search rules;
  numbered = search rules;
  unnumbered = search rules;
}
