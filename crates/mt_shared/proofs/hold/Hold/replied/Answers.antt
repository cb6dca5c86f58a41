use Rattle.std.proofs.Common.{subst, sym}
use Rattle.std.proofs.lemmas.Result.{IfErr-weaker}
use Rattle.mt_locked.proofs.Refusals.{call_refused, call_sized, step_calls}
use Rattle.mt_shared.proofs.Oks.{given_ok}
use Rattle.mt_txn.specs.Causes.{IsCallRefusal}
use Rattle.mt_shared.proofs.hold.Hold.replied.Goals as goal

pub returns-in-Ok-Started-clause-sized : goal.returns-in-Ok-Started-clause-sized
returns-in-Ok-Started-clause-sized g c = let D = g.D.Device in
    given_ok c.stepped.result (call_sized D _ _ c.args.number c.args.op.now c.in-Ok-Started.field-0 c.in-Ok-Started.ensures.kernel)

pub returns-in-Ok-Started-clause-why : goal.returns-in-Ok-Started-clause-why
returns-in-Ok-Started-clause-why g c = IfErr-weaker c.stepped.result _ _ (λ w step. step_calls c.args.op.now w step) c.stepped.ensures

pub returns-in-Err-clause-why : goal.returns-in-Err-clause-why
returns-in-Err-clause-why g c = let D = g.D.Device in
    subst (IsCallRefusal c.args.op.now) (sym c.refusing.ensures) (call_refused c.in-Err.why _ _ D c.args.number c.args.op.now c.in-Err.ensures.kernel)
