use Rattle.std.proofs.Common.{◌≡◌, ◌<◌, ◌+◌, ◌-◌, ◌∙◌, suc, ℕ, subst, arith}
use Rattle.std.proofs.lemmas.Result.{err_from_is_err_and}
use Rattle.mt_alone.specs.Driven.{IsEnding}
use Rattle.mt_alone.proofs.DueLemmas.{ending_err, ending_found, ending_missed, ending_more, ending_idle, ending_none}
use Rattle.mt_alone.proofs.forces.force_commit.Goals as goal
use Rattle.mt_alone.proofs.forces.force_commit.Goals.{in-Durable+else-contains, in-More}

one_more : (i : ℕ) → i < 8 → 8 - i ≡ suc (8 - (i + 1))
one_more i lt = omega (arith, lt)

pub returns-in_err-named-clause-committed : goal.returns-in_err-named-clause-committed
returns-in_err-named-clause-committed g c = λ p calls start.
    let D = g.D.Device in
    let r = err_from_is_err_and c.from_residual.result c.from_residual.ensures.1 in
    let f = c.in_err-named.ensures.forcing in
    rw (r.1, r.2) (ending_err p c.args.txn calls c.loop-step.kernel c.ask_force.new.kernel (8 - c.loop-step._step) c.in_err-named.field-0.0 (c.loop-step.invariant.due p calls start) f)

pub returns-then-contains-clause-committed : goal.returns-then-contains-clause-committed
returns-then-contains-clause-committed g c = λ p calls start.
    let D = g.D.Device in
    let e = subst (λ (n : ℕ). IsEnding p c.args.txn calls n c.loop-step.kernel) (one_more c.loop-step._step (omega (arith, c.loop-step-test.true))) (c.loop-step.invariant.due p calls start) in
    let f = rw c.in-Durable.is at c.in_ok-named.ensures.forcing in
    ending_found p c.args.txn calls c.loop-step.kernel c.ask_force.new.kernel (8 - (c.loop-step._step + 1)) c.in-Durable.named c.deref.result.now c.contains.result f c.deref.ensures.value c.contains.ensures.value c.if-contains.true e

pub returns-in-Idle-clause-committed : goal.returns-in-Idle-clause-committed
returns-in-Idle-clause-committed g c = λ p calls start.
    let D = g.D.Device in
    let f = rw c.in-Idle.is at c.in_ok-named.ensures.forcing in
    absurd (ending_idle p c.args.txn calls c.loop-step.kernel c.ask_force.new.kernel (8 - c.loop-step._step) (c.loop-step.invariant.due p calls start) f)

pub loop-step-preserved : goal.loop-step-preserved
loop-step-preserved g c =
    let D = g.D.Device in
    record {
      due = λ p calls start.
          let e = subst (λ (n : ℕ). IsEnding p c.args.txn calls n c.loop-step.kernel) (one_more c.loop-step._step (omega (arith, c.loop-step-test.true))) (c.loop-step.invariant.due p calls start) in
          elim c.match-branch-2.branch [
            | in-Durable+else-contains w ↦ ending_missed p c.args.txn calls c.loop-step.kernel c.ask_force.new.kernel (8 - (c.loop-step._step + 1)) w.in-Durable.named w.deref.result.now w.contains.result (rw w.in-Durable.is at c.in_ok-named.ensures.forcing) w.deref.ensures.value w.contains.ensures.value w.if-contains.false e
            | in-More w ↦ ending_more p c.args.txn calls c.loop-step.kernel c.ask_force.new.kernel (8 - (c.loop-step._step + 1)) e (rw w.in-More.is at c.in_ok-named.ensures.forcing)
          ];
      schema = (c.ask_force.ensures.schema.0 ∙ c.loop-step.invariant.schema.0, c.ask_force.ensures.schema.1 ∙ c.loop-step.invariant.schema.1);
      restarts = λ first r. c.ask_force.ensures.restarts first (c.loop-step.invariant.restarts first r);
    }

pub returns-clause-committed : goal.returns-clause-committed
returns-clause-committed g c = λ p calls start.
    let D = g.D.Device in
    let none : 8 - c.loop-step._step ≡ 0 = omega (arith, c.loop-step-test.false) in
    absurd (ending_none p c.args.txn calls c.loop-step.kernel (subst (λ (n : ℕ). IsEnding p c.args.txn calls n c.loop-step.kernel) none (c.loop-step.invariant.due p calls start)))
