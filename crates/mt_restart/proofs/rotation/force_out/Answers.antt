use Rattle.std.proofs.Common.{◌≡◌, ◌∙◌, ◌-◌, ◌+◌, ◌<◌, ℕ, [], suc, arith, refl, subst, sym, append-nil, true}
use Rattle.mt_base.specs.declared.refusal.Refusal.{Refusal}
use Rattle.mt_log.specs.Words.{durable}
use Rattle.std.proofs.lemmas.Result.{err_from_is_err_and}
use Rattle.mt_txn.proofs.GoingOn.{nobody_still}
use Rattle.mt_restart.proofs.Refusals.{not_either, not_refused}
use Rattle.mt_restart.proofs.Rotations.{IsNear, force_cause, grows_forced, idle_durable, keeps_forced, keeps_itself, near_forced, near_start}
use Rattle.mt_restart.proofs.rotation.force_out.Goals as goal

one_less : (i : ℕ) → i < 8 → 8 - i ≡ suc (8 - (i + 1))
one_less i lt = omega (arith, lt)

pub loop-step-init : goal.loop-step-init
loop-step-init g c =
    let D = g.D.Device in let k = c.args.kernel.now in
    record {
      keeps = keeps_itself g.met.D.Device.only_now k;
      well = c.requires.well;
      nobody = c.requires.nobody;
      grows = ([], sym (append-nil (durable k.core.operations.store.log)));
      quiet = refl;
      ruling = refl;
      near = near_start k.core.operations.store.log;
    }

pub returns-in_err-force_step-clause-keeps : goal.returns-in_err-force_step-clause-keeps
returns-in_err-force_step-clause-keeps g c =
    let D = g.D.Device in let i = c.loop-step.invariant in let e = c.force_step.ensures in
    keeps_forced g.met.D.Device.only_now c.args.kernel.now c.loop-step.kernel c.force_step.new.self c.force_step.result c.requires.nobody i.nobody c.loop-step.kernel.well i.keeps i.grows e.forced e.log e.restarts e.schema e.moments e.keeps

pub returns-in_err-force_step-clause-cause : goal.returns-in_err-force_step-clause-cause
returns-in_err-force_step-clause-cause g c =
    let r = err_from_is_err_and c.from_residual.result c.from_residual.ensures.1 in
    rw (r.1, r.2) (force_cause c.loop-step.kernel c.force_step.new.self c.in_err-force_step.field-0.0 c.in_err-force_step.ensures.cause c.in_err-force_step.ensures.fails.1 c.in_err-force_step.ensures.memory c.loop-step.invariant.well)

pub returns-in-Idle-clause-keeps : goal.returns-in-Idle-clause-keeps
returns-in-Idle-clause-keeps g c =
    let D = g.D.Device in let i = c.loop-step.invariant in let e = c.force_step.ensures in
    keeps_forced g.met.D.Device.only_now c.args.kernel.now c.loop-step.kernel c.force_step.new.self c.force_step.result c.requires.nobody i.nobody c.loop-step.kernel.well i.keeps i.grows e.forced e.log e.restarts e.schema e.moments e.keeps

pub returns-in-Idle-clause-forced : goal.returns-in-Idle-clause-forced
returns-in-Idle-clause-forced g c =
    let D = g.D.Device in let m = c.loop-step.kernel in let n = c.force_step.new.self in
    record {
      well = c.in_ok-force_step.ensures.well (refl {a = true});
      nobody = nobody_still m.core n.core c.loop-step.invariant.nobody c.force_step.ensures.keeps.states;
      forced = idle_durable m.core.operations.store.log n.core.operations.store.log (rw c.in-Idle.is at c.in_ok-force_step.ensures.log).0;
      grows = grows_forced c.args.kernel.now m n c.in_ok-force_step.field-0 c.loop-step.invariant.grows c.in_ok-force_step.ensures.log;
      ruling = c.force_step.ensures.keeps.ruling ∙ c.loop-step.invariant.ruling;
    }

pub loop-step-preserved : goal.loop-step-preserved
loop-step-preserved g c =
    let D = g.D.Device in let i = c.loop-step.invariant in let e = c.force_step.ensures in let m = c.loop-step.kernel in let n = c.force_step.new.self in
    record {
      keeps = keeps_forced g.met.D.Device.only_now c.args.kernel.now m n c.force_step.result c.requires.nobody i.nobody m.well i.keeps i.grows e.forced e.log e.restarts e.schema e.moments e.keeps;
      well = c.in_ok-force_step.ensures.well (refl {a = true});
      nobody = nobody_still m.core n.core i.nobody e.keeps.states;
      grows = grows_forced c.args.kernel.now m n c.in_ok-force_step.field-0 i.grows c.in_ok-force_step.ensures.log;
      quiet = e.quiet (not_refused c.force_step.result c.in_ok-force_step.field-0 Refusal.DeviceFailed c.in_ok-force_step.was) ∙ i.quiet;
      ruling = e.keeps.ruling ∙ i.ruling;
      near = near_forced (8 - (c.loop-step._step + 1)) m n c.in_ok-force_step.field-0 c.in_ok-force_step.ensures.log e.keeps.appended
          (subst (λ (s : _). IsNear s m.core.operations.store.log) (one_less c.loop-step._step (omega (arith, c.loop-step-test.true))) i.near);
    }

pub returns-in_err-force_step-clause-quiet : goal.returns-in_err-force_step-clause-quiet
returns-in_err-force_step-clause-quiet g c =
    let r = err_from_is_err_and c.from_residual.result c.from_residual.ensures.1 in
    rw (r.1, r.2) (λ not. c.in_err-force_step.ensures.quiet (not_either c.in_err-force_step.field-0.0 Refusal.DeviceFailed not) ∙ c.loop-step.invariant.quiet)

pub returns-in-Idle-clause-quiet : goal.returns-in-Idle-clause-quiet
returns-in-Idle-clause-quiet g c = λ not. c.in_ok-force_step.ensures.quiet (λ e. cc) ∙ c.loop-step.invariant.quiet
