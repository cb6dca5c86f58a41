use Rattle.std.proofs.Common.{◌∙◌, subst, sym}
use Rattle.std.proofs.lemmas.Result.{err_from_is_err_and}
use Rattle.mt_locked.proofs.Refusals.{step_refused}
use Rattle.mt_locked.specs.Refusals.{IsAbortRefusal}
use Rattle.mt_shared.proofs.hold.Hold.stepped.Goals as goal

pub returns-in_err-locked-in-Err : goal.returns-in_err-locked-in-Err
returns-in_err-locked-in-Err g c =
    let D = g.D.Device in let e = c.in_err-locked-in-Err in
    let p = err_from_is_err_and c.from_residual-in_err-locked-in-Err.result c.from_residual-in_err-locked-in-Err.ensures.1 in
    rw (p.1, p.2) (subst IsAbortRefusal (sym e.ensures.is) (step_refused c.in-Err.why _ _ D c.args.number (λ memory. e.ensures.other (e.ensures.is ∙ memory)) c.in-Err.ensures.kernel))
