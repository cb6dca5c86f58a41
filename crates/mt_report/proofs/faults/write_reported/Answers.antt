use Rattle.std.proofs.Common.{[], ◌++◌, subst, ap, append-nil}
use Rattle.std.proofs.lemmas.Result.{err_from_is_err_and, on_err_weaker}
use Rattle.mt_script.specs.Answers.{AppendsFront}
use Rattle.mt_script.proofs.TextLemmas.{front_then, front_whole}
use Rattle.mt_report.specs.Advice.{about, advice_line, advice_of, fault_line}
use Rattle.mt_report.proofs.faults.write_reported.Goals as goal

pub returns-in_err-write_fault-clause-front : goal.returns-in_err-write_fault-clause-front
returns-in_err-write_fault-clause-front g c =
    let p = err_from_is_err_and c.from_residual.result c.from_residual.ensures.1 in
    let advice = advice_line (about c.args.command.now c.args.fault.now) (advice_of c.args.command.now c.args.reason.now c.args.fault.now) in
    rw p.1 (front_whole _ _ (fault_line c.args.fault.now) advice c.in_err-write_fault.ensures.front)

pub returns-clause-front : goal.returns-clause-front
returns-clause-front g c =
    let line = fault_line c.args.fault.now in
    let advice = advice_line (about c.args.command.now c.args.fault.now) (advice_of c.args.command.now c.args.reason.now c.args.fault.now) in
    on_err_weaker c.write_advice_line.result (λ front.
    subst (AppendsFront _ _) (ap (λ t. line ++ t) (append-nil advice)) (front_then _ _ _ line advice [] c.in_ok-write_fault.ensures.all front)) c.write_advice_line.ensures.front
