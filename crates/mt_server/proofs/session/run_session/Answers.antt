use Rattle.std.proofs.Common.{false, true, ℕ, List, Err, length, drop, arith, ap, subst, sym}
use Rattle.mt_model.specs.History.{Call}
use Rattle.mt_script.specs.declared.lines.Line.{Line}
use Rattle.mt_script.specs.Scripts.{lines_in}
use Rattle.mt_server.specs.Hearing.{HasRan, IsSession, Running, between}
use Rattle.mt_server.specs.declared.attempts.Progress.{Progress}
use Rattle.mt_server.specs.declared.line_answers.Halt.{Halt}
use Rattle.mt_server.proofs.SessionRuns.{Stands, aborted_end, all_answered, at_start, failed_end, goes_on}
use Rattle.mt_server.proofs.session.run_session.Goals as goal

pub lines-init : goal.lines-init
lines-init g c = (tt, tt, subst (λ (t : List ℕ). Stands g.J.Naming.base c.args.session c.args.pass.now (lines_in c.args.script.now) 0 t c.args.pass.now) (sym c.new-out.ensures.items) (at_start g.J.Naming.base c.args.session c.args.pass.now (lines_in c.args.script.now)))

pub returns-then-at-lines : goal.returns-then-at-lines
returns-then-at-lines g c =
    subst (λ (t : List ℕ). IsSession false g.J.Naming.base c.args.session (lines_in c.args.script.now) t c.args.pass.now c.lines.pass) (sym c.new.ensures)
    (all_answered g.J.Naming.base c.args.session c.args.pass.now (lines_in c.args.script.now) c.lines.at c.lines.out.items c.lines.pass (omega (arith, ap length c.lines-lines.ensures)) c.lines.invariant.2)

pub lines-preserved : goal.lines-preserved
lines-preserved g c = (
  tt,
  tt,
  goes_on g.J.Naming.base c.args.session c.args.pass.now (lines_in c.args.script.now) c.lines.at c.in-Ok-Ended.count c.lines.out.items c.go_from.new.out.items c.lines.pass c.go_from.new.pass c.lines.invariant.2
      (λ (booked : List (ℕ × List Call)). subst (λ (x : Progress × List Line). HasRan g.J.Naming.base c.args.session (between booked c.lines.pass) (drop c.lines.at x.1) c.lines.out.items c.go_from.new.out.items c.go_from.new.pass x.0)
      (λ i. (c.in-Ok-Ended.field-0-is i, c.lines-lines.ensures i)) (c.in-Ok-Ended.ensures.runs booked)),
)

pub overflow_add-at : goal.overflow_add-at
overflow_add-at g c =
    let s = goes_on g.J.Naming.base c.args.session c.args.pass.now (lines_in c.args.script.now) c.lines.at c.in-Ok-Ended.count c.lines.out.items c.go_from.new.out.items c.lines.pass c.go_from.new.pass c.lines.invariant.2
    (λ (booked : List (ℕ × List Call)). subst (λ (x : Progress × List Line). HasRan g.J.Naming.base c.args.session (between booked c.lines.pass) (drop c.lines.at x.1) c.lines.out.items c.go_from.new.out.items c.go_from.new.pass x.0)
    (λ i. (c.in-Ok-Ended.field-0-is i, c.lines-lines.ensures i)) (c.in-Ok-Ended.ensures.runs booked)) in
    omega (arith, s.0)

pub returns-in-Ok-AtEnd : goal.returns-in-Ok-AtEnd
returns-in-Ok-AtEnd g c =
    subst (λ (t : List ℕ). IsSession false g.J.Naming.base c.args.session (lines_in c.args.script.now) t c.args.pass.now c.go_from.new.pass) (sym c.new-in-Ok-AtEnd.ensures)
    (aborted_end g.J.Naming.base c.args.session c.args.pass.now (lines_in c.args.script.now) c.lines.at c.lines.out.items c.go_from.new.out.items c.lines.pass c.go_from.new.pass c.lines.invariant.2
    (λ (booked : List (ℕ × List Call)). subst (λ (x : Progress × List Line). HasRan g.J.Naming.base c.args.session (between booked c.lines.pass) (drop c.lines.at x.1) c.lines.out.items c.go_from.new.out.items c.go_from.new.pass x.0)
    (λ i. (c.in-Ok-AtEnd.field-0-is i, c.lines-lines.ensures i)) (c.in-Ok-AtEnd.ensures.runs booked)))

pub returns-in-Err-Failed : goal.returns-in-Err-Failed
returns-in-Err-Failed g c =
    subst (λ (t : List ℕ). IsSession true g.J.Naming.base c.args.session (lines_in c.args.script.now) t c.args.pass.now c.go_from.new.pass) (sym c.new-in-Err-Failed.ensures)
    (failed_end g.J.Naming.base c.args.session c.args.pass.now (lines_in c.args.script.now) c.lines.at c.lines.out.items c.go_from.new.out.items c.lines.pass c.go_from.new.pass c.lines.invariant.2
    (λ (booked : List (ℕ × List Call)). subst (λ (x : Halt × List Line). Running g.J.Naming.base c.args.session (between booked c.lines.pass) (drop c.lines.at x.1) c.lines.out.items c.go_from.new.out.items c.go_from.new.pass (Err x.0))
    (λ i. (c.in-Err-Failed.field-0-is i, c.lines-lines.ensures i)) (c.in-Err-Failed.ensures.runs booked)))
