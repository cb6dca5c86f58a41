use Rattle.std.proofs.Common.{add-one, arith, false, ◌<◌, length, ◌∙◌, refl}
use Rattle.std.proofs.lemmas.Result.{err_from_is_err_and}
use Rattle.mt_alone.proofs.RunLemmas.{no_lines, line_more, line_cut, unstopped}
use Rattle.mt_alone.proofs.alone.run_lines.Goals as goal

pub loop-line-init : goal.loop-line-init
loop-line-init g c =
    let D = g.D.Device in
    record { ran = λ p own b. no_lines p c.args.kernel.now false _ b; schema = (refl, refl); restarts = λ first r. r }

pub returns-in_err-now-clause-cut : goal.returns-in_err-now-clause-cut
returns-in_err-now-clause-cut g c =
    let D = g.D.Device in
    let r = err_from_is_err_and c.from_residual.result c.from_residual.ensures.1 in
    let lt : c.loop-line.line-index < length c.args.lines.now = omega arith in
    rw (r.1, r.2) (λ p own b. line_cut p c.args.kernel.now false c.args.session c.args.lines.now c.loop-line.line-index c.line-item.result c.loop-line.live _ _ _ c.loop-line.kernel c.run_line.new.kernel c.in_err-now.field-0.0 own lt c.line-item.is
    (c.loop-line.invariant.ran p own b) c.in_err-now.ensures.cut)

pub loop-line-preserved : goal.loop-line-preserved
loop-line-preserved g c =
    let D = g.D.Device in
    let lt : c.loop-line.line-index < length c.args.lines.now = omega arith in
    rw add-one (record {
      ran = λ p own b. unstopped p c.args.kernel.now c.in_ok-now.now.1 _ _ _ c.in_ok-now.now.0 c.run_line.new.kernel
          (line_more p c.args.kernel.now false c.in_ok-now.now.1 c.args.session c.args.lines.now c.loop-line.line-index c.line-item.result c.loop-line.live c.in_ok-now.now.0 _ _ _ c.loop-line.kernel c.run_line.new.kernel own lt c.line-item.is
          (c.loop-line.invariant.ran p own b) c.in_ok-now.ensures.outcome);
      schema = (c.run_line.ensures.schema.0 ∙ c.loop-line.invariant.schema.0, c.run_line.ensures.schema.1 ∙ c.loop-line.invariant.schema.1);
      restarts = λ first r. c.run_line.ensures.restarts first (c.loop-line.invariant.restarts first r);
    })
