use Rattle.std.proofs.Common.{◌∙◌}
use Rattle.mt_alone.proofs.TurnoverLemmas.{closed_on, cut_at_end, ended_on}
use Rattle.mt_alone.proofs.script_run.run_script.Goals as goal

pub returns-in-Err-clause-cut : goal.returns-in-Err-clause-cut
returns-in-Err-clause-cut g c = rw c.lines.ensures at c.in-Err.ensures.cut

pub returns-in_default-clause-ran : goal.returns-in_default-clause-ran
returns-in_default-clause-ran g c = λ p own beside restarts.
    let D = g.D.Device in
    let through = rw c.lines.ensures at c.in-Ok.ensures.ran in
    closed_on p c.args.kernel c.args.stop c.in-Ok.ran.2 c.args.script.now.lines.items _ _ c.in-Ok.ran.0 (rw c.in_default.is at (through.ran p own beside restarts))

pub returns-in-Ok-end_live-clause-ran : goal.returns-in-Ok-end_live-clause-ran
returns-in-Ok-end_live-clause-ran g c = λ p own beside restarts.
    let D = g.D.Device in
    let through = rw c.lines.ensures at c.in-Ok.ensures.ran in
    ended_on p c.args.kernel c.args.stop c.in-Ok.ran.2 c.args.script.now.lines.items c.in-Some.txn _ _ _ c.in-Ok.ran.0 c.end_live.new.kernel (rw c.in-Some.is at (through.ran p own beside restarts)) c.in-Ok-end_live.ensures.ended

pub returns-in-Err-end_live-clause-cut : goal.returns-in-Err-end_live-clause-cut
returns-in-Err-end_live-clause-cut g c = λ p own beside restarts.
    let D = g.D.Device in
    let through = rw c.lines.ensures at c.in-Ok.ensures.ran in
    let end = c.in-Err-end_live.ensures in
    cut_at_end p c.args.kernel c.args.stop c.in-Ok.ran.2 c.args.script.now.lines.items c.in-Some.txn _ _ _ c.in-Ok.ran.0 c.end_live.new.kernel c.in-Err-end_live.why (end.schema.0 ∙ through.schema.0, end.schema.1 ∙ through.schema.1)
    (end.restarts p.first (through.restarts p.first restarts)) (rw c.in-Some.is at (through.ran p own beside restarts)) end.cut
