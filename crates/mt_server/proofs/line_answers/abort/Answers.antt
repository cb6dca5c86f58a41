use Rattle.std.proofs.lemmas.Result.{err_from_is_err_and}
use Rattle.mt_server.proofs.HearingLemmas.{stops_line, reported_aborted, unheard_line}
use Rattle.mt_server.proofs.line_answers.abort.Goals as goal

pub returns-then-not-take_back-clause-turns : goal.returns-then-not-take_back-clause-turns
returns-then-not-take_back-clause-turns g c =
    stops_line g.J.Naming.base c.args.txn c.args.pass.now c.take_back.new.pass _ _ _ c.fail.result c.take_back.ensures c.fail.ensures.stops

pub returns-clause-turns : goal.returns-clause-turns
returns-clause-turns g c =
    reported_aborted g.J.Naming.base c.args.txn c.args.pass.now c.requires.own _ _ c.take_back.new.pass c.take_back.ensures c.in_ok-report_aborted.ensures.ok

pub returns-in_err-report_aborted-clause-turns : goal.returns-in_err-report_aborted-clause-turns
returns-in_err-report_aborted-clause-turns g c =
    let p = err_from_is_err_and c.from_residual.result c.from_residual.ensures.1 in
    rw (p.1, p.2) (unheard_line g.J.Naming.base c.args.txn c.args.pass.now c.take_back.new.pass _ _ _ c.in_err-report_aborted.field-0.0 c.in_err-report_aborted.ensures.err c.take_back.ensures)
