use Rattle.std.proofs.lemmas.Result.{err_from_is_err_and}
use Rattle.std.proofs.Common.{◌≡◌, IfSome, subst}
use Rattle.mt_script.specs.declared.answers.Answer.TheVariants.{Refused}
use Rattle.mt_script.specs.declared.lines.Line.TheVariants as line
use Rattle.mt_server.proofs.HearingLemmas.{gone_not_back, lets_go_on, stops_line, reported_commit, reported_refused, same_reporting, unheard_commit}
use Rattle.mt_server.proofs.line_answers.commit.Goals as goal

pub returns-in_ok-report_committed-in-Ok-clause-turns : goal.returns-in_ok-report_committed-in-Ok-clause-turns
returns-in_ok-report_committed-in-Ok-clause-turns g c =
    reported_commit g.J.Naming.base c.args.txn c.args.pass.now c.requires.own c.in-Ok.place _ _ c.commit.new.pass c.in-Ok.ensures.entered c.in_ok-report_committed-in-Ok.ensures.ok

pub returns-in-Some-clause-turns : goal.returns-in-Some-clause-turns
returns-in-Some-clause-turns g c =
    reported_refused g.J.Naming.base c.args.txn c.args.pass.now c.requires.own line.Commit c.in-Err.field-0.why _ _ c.refused.new.pass c.refused.result
    (lets_go_on c.in-Err.field-0.why (λ failed. gone_not_back _ c.in-Some.back (c.in-Err.ensures.gone.1 failed) c.in-Some.is), c.in-Err.ensures.why)
    (same_reporting c.commit.new.pass c.args.pass.now _ _ c.refused.new.pass (Refused c.in-Err.field-0.why) c.refused.result c.in-Some.back c.args.txn c.in-Err.ensures.same (subst (λ o. IfSome o (λ t. t ≡ c.args.txn)) c.in-Some.is c.in-Err.ensures.back) c.refused.ensures.reports)

pub returns-in-None-clause-turns : goal.returns-in-None-clause-turns
returns-in-None-clause-turns g c =
    stops_line g.J.Naming.base c.args.txn c.args.pass.now c.commit.new.pass line.Commit _ _ c.fail.result c.in-Err.ensures.same c.fail.ensures.stops

pub returns-in_err-report_committed-in-Ok-clause-turns : goal.returns-in_err-report_committed-in-Ok-clause-turns
returns-in_err-report_committed-in-Ok-clause-turns g c =
    let p = err_from_is_err_and c.from_residual.result c.from_residual.ensures.1 in
    rw (p.1, p.2) (unheard_commit g.J.Naming.base c.args.txn c.args.pass.now c.commit.new.pass _ _ c.in-Ok.place c.in_err-report_committed-in-Ok.field-0.0 c.in_err-report_committed-in-Ok.ensures.err c.in-Ok.ensures.entered)
