use Rattle.std.proofs.Common.{refl}
use Rattle.mt_base.specs.declared.refusal.Refusal.TheVariants as refusal
use Rattle.mt_script.specs.declared.lines.Line.TheVariants as line
use Rattle.mt_server.proofs.HearingLemmas.{reported_refused}
use Rattle.mt_server.proofs.line_answers.answer_line.Goals as goal

pub returns-in-Begin-clause-turns : goal.returns-in-Begin-clause-turns
returns-in-Begin-clause-turns g c =
    rw c.in-Begin.is (reported_refused g.J.Naming.base c.args.txn c.args.pass.now c.requires.own line.Begin refusal.Busy _ _ c.refused.new.pass c.refused.result refl c.refused.ensures.reports)
