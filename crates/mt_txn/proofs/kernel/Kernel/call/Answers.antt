use Rattle.mt_pool.specs.declared.store.Store.{Store}
use Rattle.mt_txn.proofs.Answering.{call_answers, call_shown}
use mathlib.Core.Logic.{∥∥₁_elim, ∥∥₁_map}
use Rattle.std.proofs.Common.{◌≡◌, ◌∙◌, Bool, true, Some, None, Err, ap, refl, subst, sym}
use Rattle.std.proofs.Props.{props}
use Rattle.mt_base.specs.declared.refusal.Refusal.{Refusal}
use Rattle.mt_base.specs.declared.refusal.Refusal.TheVariants.{DeviceFailed}
use Rattle.std.specs.Prelude.{◌||◌}
use Rattle.mt_log.specs.Words.{has_failed}
use Rattle.mt_core.specs.Causes.{IsAnswered}
use Rattle.mt_core.specs.Consistent.{log_kept}
use Rattle.mt_txn.proofs.Failing.{answered_fine, call_fails}
use Rattle.mt_txn.specs.Causes.{call_cause}
use Rattle.mt_txn.specs.Shown.{is_failed}
use Rattle.mt_txn.proofs.Answering.{may_call, call_well}
use Rattle.mt_txn.proofs.Restarting.{no_call, restarts_called}
use Rattle.mt_txn.proofs.kernel.Kernel.call.Goals as goal

pub call-requires-clause-safe : goal.call-requires-clause-safe
call-requires-clause-safe g c = ∥∥₁_map c.args.self.now.well (λ (origin, base, is, safe). (origin, base, safe, may_call g.D.Device c.args.self.now.relations c.args.self.now.counters c.args.self.now.core c.args.txn c.args.op.now origin is c.in_default.ensures.named c.in_default.ensures.sized c.in_default.ensures.opened c.in_default.ensures.idle c.in_default.ensures.counted))

pub invariant_of-self : goal.invariant_of-self
invariant_of-self g c = record { well = call_well g.D.Device c.args.self.now.relations c.args.self.now.counters c.args.self.now.core c.call.new.self c.args.txn c.args.op.now c.call.result (λ origin is. may_call g.D.Device c.args.self.now.relations c.args.self.now.counters c.args.self.now.core c.args.txn c.args.op.now origin is c.in_default.ensures.named c.in_default.ensures.sized c.in_default.ensures.opened c.in_default.ensures.idle c.in_default.ensures.counted) c.call.ensures.called c.args.self.now.well; starts = ∥∥₁_map c.args.self.now.starts (λ (first, r). let D = g.D.Device in let k = c.args.self.now in (first, restarts_called D k.relations k.counters first k.core c.call.new.self c.args.txn c.args.op.now c.call.result (λ origin is. may_call D k.relations k.counters k.core c.args.txn c.args.op.now origin is c.in_default.ensures.named c.in_default.ensures.sized c.in_default.ensures.opened c.in_default.ensures.idle c.in_default.ensures.counted) c.call.ensures.called c.call.ensures.restartable r)); schema = c.args.self.now.schema }

pub returns-clause-answer : goal.returns-clause-answer
returns-clause-answer g c = λ none. ∥∥₁_map c.args.self.now.well (λ (origin, base, is, safe). (origin, base, is, safe, c.call.ensures.answer origin base safe (may_call g.D.Device c.args.self.now.relations c.args.self.now.counters c.args.self.now.core c.args.txn c.args.op.now origin is c.in_default.ensures.named c.in_default.ensures.sized c.in_default.ensures.opened c.in_default.ensures.idle c.in_default.ensures.counted)))

pub returns-clause-called : goal.returns-clause-called
returns-clause-called g c = λ first s shows. call_answers first s c.args.txn c.args.op.now c.call.result _ (call_shown g.D.Device c.args.self.now.relations c.args.self.now.counters c.args.self.now.core c.call.new.self first s c.args.txn c.args.op.now c.call.result (λ origin is. may_call g.D.Device c.args.self.now.relations c.args.self.now.counters c.args.self.now.core c.args.txn c.args.op.now origin is c.in_default.ensures.named c.in_default.ensures.sized c.in_default.ensures.opened c.in_default.ensures.idle c.in_default.ensures.counted) c.call.ensures.called shows)

pub returns-in-Some-clause-fails : goal.returns-in-Some-clause-fails
returns-in-Some-clause-fails g c =
    let k = c.args.self.now in let r = k.relations in let m = k.counters in
    let cause : call_cause r m (is_failed k) k.core c.args.txn c.args.op.now ≡ Some c.in-Some.why = sym c.call_cause.ensures.cause ∙ c.in-Some.is in (
      λ failed.
          let both : Some DeviceFailed ≡ Some c.in-Some.why = sym (ap (λ (b : Bool). call_cause r m b k.core c.args.txn c.args.op.now) failed) ∙ cause in
          let same : c.in-Some.why ≡ DeviceFailed = cc in (ap (λ (w : Refusal). Err w) same, refl),
      λ is. let same : c.in-Some.why ≡ DeviceFailed = cc in call_fails r m (is_failed k) k.core c.args.txn c.args.op.now (cause ∙ ap (λ (w : Refusal). Some w) same),
      λ marked.
          let failed : is_failed k ≡ true = ap (λ (b : Bool). b || has_failed k.core.operations.store.log) marked in
          let both : Some DeviceFailed ≡ Some c.in-Some.why = sym (ap (λ (b : Bool). call_cause r m b k.core c.args.txn c.args.op.now) failed) ∙ cause in
          let same : c.in-Some.why ≡ DeviceFailed = cc in ap (λ (w : Refusal). Err w) same,
    )

pub returns-clause-fails : goal.returns-clause-fails
returns-clause-fails g c =
    let k = c.args.self.now in let r = k.relations in let m = k.counters in
    let none : call_cause r m (is_failed k) k.core c.args.txn c.args.op.now ≡ None = sym c.in_default.ensures.cause in (
      λ failed. let wrong : Some DeviceFailed ≡ None = sym (ap (λ (b : Bool). call_cause r m b k.core c.args.txn c.args.op.now) failed) ∙ none in absurd cc,
      λ is. absurd (∥∥₁_elim k.well (hlevel props) (λ (origin, base, own, safe). answered_fine g.D.Device origin k.core (log_kept k.core) c.args.txn c.args.op.now
          (subst (IsAnswered g.D.Device origin k.core (log_kept k.core) c.args.txn c.args.op.now) is
          (c.call.ensures.answer origin base safe (may_call g.D.Device r m k.core c.args.txn c.args.op.now origin own c.in_default.ensures.named c.in_default.ensures.sized c.in_default.ensures.opened c.in_default.ensures.idle c.in_default.ensures.counted))))),
      λ marked.
          let failed : is_failed k ≡ true = ap (λ (b : Bool). b || has_failed k.core.operations.store.log) marked in
          let wrong : Some DeviceFailed ≡ None = sym (ap (λ (b : Bool). call_cause r m b k.core c.args.txn c.args.op.now) failed) ∙ none in absurd cc,
    )

pub returns-clause-restarts : goal.returns-clause-restarts
returns-clause-restarts g c = λ first r. let D = g.D.Device in let k = c.args.self.now in
    restarts_called D k.relations k.counters first k.core c.call.new.self c.args.txn c.args.op.now c.call.result (λ origin is. may_call D k.relations k.counters k.core c.args.txn c.args.op.now origin is c.in_default.ensures.named c.in_default.ensures.sized c.in_default.ensures.opened c.in_default.ensures.idle c.in_default.ensures.counted) c.call.ensures.called c.call.ensures.restartable r

pub returns-in-Some-clause-moments : goal.returns-in-Some-clause-moments
returns-in-Some-clause-moments g c = λ first r schema. let D = g.D.Device in let k = c.args.self.now in
    no_call D k.relations k.counters first g.met.D.Device.only_now k.core _ refl r schema

pub returns-clause-moments : goal.returns-clause-moments
returns-clause-moments g c = λ first r schema. let D = g.D.Device in let k = c.args.self.now in
    no_call D k.relations k.counters first g.met.D.Device.only_now k.core _ (ap (λ (s : Store g.row.D.Denot). s.device) c.call.ensures.store) r schema
