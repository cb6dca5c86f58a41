use Rattle.std.proofs.Common.{ap, subst}
use Rattle.mt_base.specs.declared.refusal.Refusal.TheVariants as refusal
use Rattle.mt_script.specs.declared.answers.Answer.TheVariants.{Replied}
use Rattle.mt_script.specs.declared.lines.Line.TheVariants as line
use Rattle.mt_server.specs.Hearing.{Reporting}
use Rattle.mt_server.proofs.HearingLemmas.{same_turning, reported_refused, reported_reply}
use Rattle.mt_model.specs.declared.operations.Op.{Op}
use Rattle.mt_txn.specs.Causes.{IsCallRefusal}
use Rattle.mt_locked.specs.Tokens.{TxnSeen}
use Rattle.mt_server.proofs.line_answers.call.Goals as goal

pub returns-in_default-clause-turns : goal.returns-in_default-clause-turns
returns-in_default-clause-turns g c =
    reported_refused g.J.Naming.base c.args.txn c.args.pass.now c.requires.own (line.Call c.args.op.now) refusal.NoMemory _ _ c.refused.new.pass c.refused.result (tt, tt) c.refused.ensures.reports

pub returns-in-Ok-run-clause-turns : goal.returns-in-Ok-run-clause-turns
returns-in-Ok-run-clause-turns g c =
    let reply = c.in-Ok-run.ensures.ok.0 in
    let is = c.in-Ok-run.ensures.ok.1 in
    let reports = c.replied.ensures.reports c.args.txn.done.calls _ reply (ap (λ (t : TxnSeen). t.done.calls) is) in
    rw (← c.in-Ok.ensures) (reported_reply g.J.Naming.base c.args.txn c.args.pass.now c.requires.own c.in-Ok.copy reply c.args.out.now.items c.replied.new.out.items c.replied.new.pass c.replied.result c.in-Ok-run.ensures.sized
    (subst (λ (t : TxnSeen). Reporting t c.args.pass.now c.args.out.now.items c.replied.new.out.items c.replied.new.pass (Replied reply) c.replied.result) is reports))

pub returns-in-Err-clause-turns : goal.returns-in-Err-clause-turns
returns-in-Err-clause-turns g c =
    same_turning g.J.Naming.base c.args.pass.now (line.Call c.args.op.now) _ _ c.stopped.new.pass c.stopped.result c.run.new.txn c.args.txn c.in-Err.ensures.err (c.stopped.ensures.turns c.args.op.now (subst (λ (op : Op). IsCallRefusal op c.in-Err.why) c.in-Ok.ensures c.in-Err.ensures.why))
