use Rattle.std.proofs.Common.{◌∷◌, [], Ok, Err, arith, subst, ◌∙◌}
use Rattle.mt_script.specs.declared.lines.Line.TheVariants as line
use Rattle.mt_server.specs.declared.line_answers.Halt.{Halt}
use Rattle.mt_server.specs.declared.line_answers.Halt.TheVariants as halt
use Rattle.mt_server.specs.Hearing.{Running, between}
use Rattle.mt_server.proofs.AttemptLemmas.{cut_back, same_start}
use Rattle.mt_server.proofs.attempts.run_surely.Goals as goal

pub loop-run-preserved : goal.loop-run-preserved
loop-run-preserved g c =
    let died = subst (λ (s : Halt). Running g.J.Naming.base c.args.session (between [] c.loop-run.pass) (line.Begin ∷ c.args.lines.now) c.loop-run.out.items c.run_once.new.out.items c.run_once.new.pass (Err s)) c.in-Err-Died.field-0-is (c.in-Err-Died.ensures.runs []) in
    record {
      pass = died.0 ∙ c.loop-run.invariant.pass;
      out = cut_back c.args.out.now.items c.loop-run.out.items _ _ _ c.loop-run.invariant.out died.1 (omega (arith, c.len-kept.ensures)) c.truncate.ensures.items;
    }

pub returns-in-Ok-clause-runs : goal.returns-in-Ok-clause-runs
returns-in-Ok-clause-runs g c = λ booked.
    same_start g.J.Naming.base c.args.session booked c.args.pass.now c.loop-run.pass (line.Begin ∷ c.args.lines.now) c.args.out.now.items c.loop-run.out.items c.run_once.new.out.items c.run_once.new.pass (Ok c.in-Ok.ran) c.loop-run.invariant.pass c.loop-run.invariant.out (c.in-Ok.ensures.runs booked)

pub returns-in-Err-Failed-clause-runs : goal.returns-in-Err-Failed-clause-runs
returns-in-Err-Failed-clause-runs g c = λ booked.
    same_start g.J.Naming.base c.args.session booked c.args.pass.now c.loop-run.pass (line.Begin ∷ c.args.lines.now) c.args.out.now.items c.loop-run.out.items c.run_once.new.out.items c.run_once.new.pass (Err halt.Failed) c.loop-run.invariant.pass c.loop-run.invariant.out
    (subst (λ (s : Halt). Running g.J.Naming.base c.args.session (between booked c.loop-run.pass) (line.Begin ∷ c.args.lines.now) c.loop-run.out.items c.run_once.new.out.items c.run_once.new.pass (Err s)) c.in-Err-Failed.field-0-is (c.in-Err-Failed.ensures.runs booked))

pub returns-in-Err-Unheard-clause-runs : goal.returns-in-Err-Unheard-clause-runs
returns-in-Err-Unheard-clause-runs g c = λ booked.
    same_start g.J.Naming.base c.args.session booked c.args.pass.now c.loop-run.pass (line.Begin ∷ c.args.lines.now) c.args.out.now.items c.loop-run.out.items c.run_once.new.out.items c.run_once.new.pass (Err halt.Unheard) c.loop-run.invariant.pass c.loop-run.invariant.out
    (subst (λ (s : Halt). Running g.J.Naming.base c.args.session (between booked c.loop-run.pass) (line.Begin ∷ c.args.lines.now) c.loop-run.out.items c.run_once.new.out.items c.run_once.new.pass (Err s)) c.in-Err-Unheard.field-0-is (c.in-Err-Unheard.ensures.runs booked))

pub returns-clause-runs : goal.returns-clause-runs
returns-clause-runs g c = λ booked.
    same_start g.J.Naming.base c.args.session booked c.args.pass.now c.loop-run.pass (line.Begin ∷ c.args.lines.now) c.args.out.now.items c.loop-run.out.items c.run_once-2.new.out.items c.run_once-2.new.pass c.run_once-2.result c.loop-run.invariant.pass c.loop-run.invariant.out (c.run_once-2.ensures.runs booked)
