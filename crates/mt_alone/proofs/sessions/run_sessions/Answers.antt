use Rattle.std.proofs.Common.{◌≡◌, ◌<◌, ◌+◌, length, take, ◌∙◌, arith, ap, refl}
use Rattle.std.proofs.Math.Seq.{take-length}
use Rattle.mt_alone.proofs.SessionLemmas.{none_served, served_cut, served_more, served_to}
use Rattle.mt_alone.proofs.sessions.run_sessions.Goals as goal

pub loop-script-init : goal.loop-script-init
loop-script-init g c =
    let D = g.D.Device in
    record { count = refl; ran = λ p beside restarts. none_served p c.args.kernel c.args.stop _ beside restarts; schema = (refl, refl); restarts = λ first restarts. restarts }

pub returns-in-Err-clause-cut : goal.returns-in-Err-clause-cut
returns-in-Err-clause-cut g c = λ p beside restarts.
    let D = g.D.Device in
    let lt : c.loop-script.script-index < length c.args.scripts.now = omega arith in
    served_cut p c.args.kernel c.args.stop c.args.scripts.now c.loop-script.script-index c.script-item.result _ _ _ c.loop-script.kernel c.in-Err.left lt c.script-item.is
    (c.loop-script.invariant.ran p beside restarts) (rw c.loop-script.invariant.count at c.in-Err.ensures.cut)

pub returns-in-Some-clause-ran : goal.returns-in-Some-clause-ran
returns-in-Some-clause-ran g c = λ p beside restarts.
    let D = g.D.Device in
    let lt : c.loop-script.script-index < length c.args.scripts.now = omega arith in
    served_to p c.args.kernel c.args.stop c.in-Some.at c.args.scripts.now c.loop-script.script-index c.script-item.result _ _ _ c.loop-script.kernel c.in-Ok.served.0 lt c.script-item.is
    (c.loop-script.invariant.ran p beside restarts) (rw (c.loop-script.invariant.count, c.in-Some.is) at c.in-Ok.ensures.at) (rw (c.loop-script.invariant.count, c.in-Some.is) at c.in-Ok.ensures.served)

pub loop-script-preserved : goal.loop-script-preserved
loop-script-preserved g c =
    let D = g.D.Device in
    let lt : c.loop-script.script-index < length c.args.scripts.now = omega arith in
    record {
      count = ap (λ n. n + 1) c.loop-script.invariant.count;
      ran = λ p beside restarts. served_more p c.args.kernel c.args.stop c.args.scripts.now c.loop-script.script-index c.script-item.result _ _ _ c.loop-script.kernel c.in-Ok.served.0 lt c.script-item.is
          (c.loop-script.invariant.ran p beside restarts) (rw (c.loop-script.invariant.count, c.in_default.is) at c.in-Ok.ensures.served);
      schema = (c.in-Ok.ensures.schema.0 ∙ c.loop-script.invariant.schema.0, c.in-Ok.ensures.schema.1 ∙ c.loop-script.invariant.schema.1);
      restarts = λ first restarts. c.in-Ok.ensures.restarts first (c.loop-script.invariant.restarts first restarts);
    }

pub returns-clause-ran : goal.returns-clause-ran
returns-clause-ran g c = λ p beside restarts.
    let all : take c.loop-script.script-index c.args.scripts.now ≡ c.args.scripts.now = ap (λ n. take n c.args.scripts.now) (omega arith) ∙ take-length c.args.scripts.now in
    rw all at (c.loop-script.invariant.ran p beside restarts)
