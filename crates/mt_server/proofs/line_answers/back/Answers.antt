use Rattle.std.proofs.Common.{◌≤◌, length, subst}
use Rattle.mt_script.specs.declared.answers.Answer.TheVariants.{Back, Refused}
use Rattle.mt_script.specs.declared.lines.Line.TheVariants as line
use Rattle.mt_locked.specs.Tokens.{TxnSeen}
use Rattle.mt_server.specs.Hearing.{Reporting}
use Rattle.mt_server.proofs.HearingLemmas.{lets_go_on, reported_back, reported_refused}
use Rattle.mt_server.proofs.line_answers.back.Goals as goal

pub returns-in-Ok-clause-turns : goal.returns-in-Ok-clause-turns
returns-in-Ok-clause-turns g c =
    let enough : c.args.first ≤ length c.args.txn.standing = c.in-Ok.ensures.may in
    reported_back g.J.Naming.base c.args.txn c.args.pass.now c.requires.own c.args.first _ _ c.answered.new.pass c.answered.result enough
    (subst (λ (t : TxnSeen). Reporting t c.args.pass.now c.args.out.now.items c.answered.new.out.items c.answered.new.pass (Back c.args.first) c.answered.result) c.in-Ok.ensures.ok c.answered.ensures.reports)

pub returns-in_default-clause-turns : goal.returns-in_default-clause-turns
returns-in_default-clause-turns g c =
    reported_refused g.J.Naming.base c.args.txn c.args.pass.now c.requires.own (line.Back c.args.first) c.in-Err.why _ _ c.refused.new.pass c.refused.result
    (lets_go_on c.in-Err.why c.in_default.not-DeviceFailed, c.in-Err.ensures.why, c.in-Err.ensures.savepoint)
    (subst (λ (t : TxnSeen). Reporting t c.args.pass.now c.args.out.now.items c.refused.new.out.items c.refused.new.pass (Refused c.in-Err.why) c.refused.result) c.in-Err.ensures.err c.refused.ensures.reports)
