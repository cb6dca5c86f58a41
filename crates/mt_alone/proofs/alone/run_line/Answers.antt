use Rattle.mt_alone.proofs.RunLemmas.{line_stopped, line_reported, line_unheard}
use Rattle.mt_alone.proofs.alone.run_line.Goals as goal

pub returns-in-Err-clause-cut : goal.returns-in-Err-clause-cut
returns-in-Err-clause-cut g c = λ p own b.
    let D = g.D.Device in
    line_stopped p c.args.kernel.now c.args.line.now c.in-Err.refusal _ _ c.answer.new.kernel _ (c.in-Err.ensures.answers p own b) c.end_refused.ensures

pub returns-in-Ok-report-clause-outcome : goal.returns-in-Ok-report-clause-outcome
returns-in-Ok-report-clause-outcome g c = λ p own b.
    let D = g.D.Device in
    line_reported p c.args.kernel.now c.args.stop c.ending-why.result c.args.line.now c.in-Ok.outcome c.args.live _ _ c.answer.new.kernel c.ending-why.ensures b c.in-Ok.ensures.schema (c.in-Ok.ensures.answers p own b) c.in-Ok-report.ensures.all

pub returns-clause-cut : goal.returns-clause-cut
returns-clause-cut g c = λ p own b.
    let D = g.D.Device in
    line_unheard p c.args.kernel.now c.args.line.now c.in-Ok.outcome c.args.live _ _ c.answer.new.kernel c.end_unheard.new.kernel _ b c.in-Ok.ensures.schema (c.in-Ok.ensures.answers p own b) c.in-Err-report.ensures.front c.end_unheard.ensures.left
