use Rattle.std.proofs.lemmas.Result.{err_from_is_err_and}
use Rattle.mt_restart.proofs.log_report.report.Goals as goal

pub returns-in_err-ruling-clause-no_other_refusal : goal.returns-in_err-ruling-clause-no_other_refusal
returns-in_err-ruling-clause-no_other_refusal g c = λ format relations counters b can.
    let p = err_from_is_err_and c.from_residual.result c.from_residual.ensures.1 in
    rw (p.1, p.2) (c.in_err-ruling.ensures.no_other_refusal format relations counters b can)

pub returns-clause-outcome : goal.returns-clause-outcome
returns-clause-outcome g c = c.report_of.ensures (g.D.Device.seen c.args.device.now) c.in_ok-ruling.ensures.log
