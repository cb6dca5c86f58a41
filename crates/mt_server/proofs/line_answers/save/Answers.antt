use Rattle.std.proofs.Common.{ℕ, subst}
use Rattle.mt_script.specs.declared.answers.Answer.TheVariants.{Saved}
use Rattle.mt_server.specs.Hearing.{Reporting}
use Rattle.mt_server.proofs.HearingLemmas.{reported_saved}
use Rattle.mt_server.proofs.line_answers.save.Goals as goal

pub returns-clause-turns : goal.returns-clause-turns
returns-clause-turns g c =
    reported_saved g.J.Naming.base c.args.txn c.args.pass.now c.requires.own _ _ c.answered.new.pass c.answered.result
    (subst (λ (n : ℕ). Reporting c.args.txn c.args.pass.now c.args.out.now.items c.answered.new.out.items c.answered.new.pass (Saved n) c.answered.result) c.answered-count.ensures c.answered.ensures.reports)
