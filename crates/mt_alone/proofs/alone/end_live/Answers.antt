use Rattle.mt_alone.proofs.RunLemmas.{end_stopped, end_unwritten, end_written}
use Rattle.mt_alone.proofs.alone.end_live.Goals as goal

pub returns-in-Err-clause-cut : goal.returns-in-Err-clause-cut
returns-in-Err-clause-cut g c = λ p b.
    let D = g.D.Device in
    end_stopped p c.args.kernel.now c.in-Err.refusal _ _ c.undo_open.new.kernel _ (c.in-Err.ensures.aborted p b.0 b.2) c.end_refused.ensures

pub returns-in-Ok-clause-ended : goal.returns-in-Ok-clause-ended
returns-in-Ok-clause-ended g c = λ p b.
    let D = g.D.Device in
    end_written p c.args.kernel.now _ _ c.undo_open.new.kernel (c.in_default.ensures.aborted p b.0 b.2) c.in-Ok.ensures.all

pub returns-in-Err-report-clause-cut : goal.returns-in-Err-report-clause-cut
returns-in-Err-report-clause-cut g c = λ p b.
    let D = g.D.Device in
    end_unwritten p c.args.kernel.now _ _ c.undo_open.new.kernel (c.in_default.ensures.aborted p b.0 b.2) c.in-Err-report.ensures.front
