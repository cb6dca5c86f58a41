use Rattle.std.proofs.Common.{add-one, ap, arith, refl, ◌≡◌, ◌<◌, length, take, ◌∙◌, Option, None, Some, ℕ, Bool, not, true}
use Rattle.std.specs.Prelude.{is_some}
use Rattle.std.proofs.Math.Seq.{take-length}
use Rattle.mt_alone.proofs.TurnoverLemmas.{line_not_through, line_through, none_through, through_not_turned, turned_on, turned_out, turned_through}
use Rattle.mt_alone.specs.Turnovers.{GoesThrough}
use Rattle.mt_alone.proofs.script_run.run_each.Goals as goal
use Rattle.mt_alone.proofs.script_run.run_each.Goals.{then-is_none+then-is_due+in-Stands, else-is_none}

-- nothing is open
is_nothing : (o : Option ℕ) (b : Bool) → is_some o ≡ not b → b ≡ true → o ≡ None
is_nothing None b is none = refl
is_nothing (Some t) b is none = let e : true ≡ not true = is ∙ ap not none in absurd cc

pub loop-at-init : goal.loop-at-init
loop-at-init g c =
    let D = g.D.Device in
    none_through c.args.stop c.args.session c.args.kernel _

pub returns-in-Ended-clause-cut : goal.returns-in-Ended-clause-cut
returns-in-Ended-clause-cut g c =
    let D = g.D.Device in
    let none : c.loop-at.live ≡ None = is_nothing c.loop-at.live c.is_none.result c.is_none.ensures c.if-is_none.true in
    through_not_turned c.args.stop c.args.session c.args.kernel c.args.lines.now c.loop-at.at c.loop-at.live c.in-Ended.device _ _ _ c.loop-at.kernel c.end_refused-why.result
    none c.loop-at.invariant (turned_out c.loop-at.kernel c.in-Ended.device _ c.in-Ended.is c.turned.ensures) c.end_refused-why.ensures

pub returns-in-Err-clause-cut : goal.returns-in-Err-clause-cut
returns-in-Err-clause-cut g c =
    let D = g.D.Device in
    let lt : c.loop-at.at < length c.args.lines.now = omega arith in
    let through : GoesThrough c.args.stop None c.args.session c.args.kernel (take c.loop-at.at c.args.lines.now) (g.W.Write.contents c.args.writer.now) (g.W.Write.contents c.loop-at.writer) c.loop-at.live c.if-is_none.kernel =
    elim c.if-is_none.branch [
      | then-is_none+then-is_due+in-Stands w ↦
          rw w.kernel-is
          (turned_through c.args.stop c.args.session c.args.kernel (take c.loop-at.at c.args.lines.now) c.loop-at.live _ _ c.loop-at.kernel w.in-Stands.next
          (is_nothing c.loop-at.live c.is_none.result c.is_none.ensures w.if-is_none.true) c.loop-at.invariant (turned_on c.loop-at.kernel w.in-Stands.next _ w.in-Stands.is w.turned.ensures))
      | else-is_none w ↦ rw w.kernel-is c.loop-at.invariant
    ] in
    line_not_through c.args.stop c.args.session c.args.kernel c.args.lines.now c.loop-at.at c.index-lines-at.result c.loop-at.live _ _ _ c.if-is_none.kernel c.run_line.new.kernel c.in-Err.why lt c.index-lines-at.is through
    c.in-Err.ensures.cut c.in-Err.ensures.schema c.in-Err.ensures.restarts

pub returns-in-Some-clause-ran : goal.returns-in-Some-clause-ran
returns-in-Some-clause-ran g c =
    let D = g.D.Device in
    let lt : c.loop-at.at < length c.args.lines.now = omega arith in
    let through : GoesThrough c.args.stop None c.args.session c.args.kernel (take c.loop-at.at c.args.lines.now) (g.W.Write.contents c.args.writer.now) (g.W.Write.contents c.loop-at.writer) c.loop-at.live c.if-is_none.kernel =
    elim c.if-is_none.branch [
      | then-is_none+then-is_due+in-Stands w ↦
          rw w.kernel-is
          (turned_through c.args.stop c.args.session c.args.kernel (take c.loop-at.at c.args.lines.now) c.loop-at.live _ _ c.loop-at.kernel w.in-Stands.next
          (is_nothing c.loop-at.live c.is_none.result c.is_none.ensures w.if-is_none.true) c.loop-at.invariant (turned_on c.loop-at.kernel w.in-Stands.next _ w.in-Stands.is w.turned.ensures))
      | else-is_none w ↦ rw w.kernel-is c.loop-at.invariant
    ] in
    rw add-one (rw c.in-Some.is (rw c.in-Some.is at
    (line_through c.args.stop c.args.session c.args.kernel c.in-Ok.now.1 c.args.lines.now c.loop-at.at c.index-lines-at.result c.loop-at.live c.in-Ok.now.0 _ _ _ c.if-is_none.kernel c.run_line.new.kernel lt c.index-lines-at.is through
    c.in-Ok.ensures.outcome c.in-Ok.ensures.schema c.in-Ok.ensures.restarts)))

pub returns-in-Some-clause-at : goal.returns-in-Some-clause-at
returns-in-Some-clause-at g c =
    let lt : c.loop-at.at < length c.args.lines.now = omega arith in
    (refl, omega arith, omega (arith, lt))

pub loop-at-preserved : goal.loop-at-preserved
loop-at-preserved g c =
    let D = g.D.Device in
    let lt : c.loop-at.at < length c.args.lines.now = omega arith in
    let through : GoesThrough c.args.stop None c.args.session c.args.kernel (take c.loop-at.at c.args.lines.now) (g.W.Write.contents c.args.writer.now) (g.W.Write.contents c.loop-at.writer) c.loop-at.live c.if-is_none.kernel =
    elim c.if-is_none.branch [
      | then-is_none+then-is_due+in-Stands w ↦
          rw w.kernel-is
          (turned_through c.args.stop c.args.session c.args.kernel (take c.loop-at.at c.args.lines.now) c.loop-at.live _ _ c.loop-at.kernel w.in-Stands.next
          (is_nothing c.loop-at.live c.is_none.result c.is_none.ensures w.if-is_none.true) c.loop-at.invariant (turned_on c.loop-at.kernel w.in-Stands.next _ w.in-Stands.is w.turned.ensures))
      | else-is_none w ↦ rw w.kernel-is c.loop-at.invariant
    ] in
    rw add-one (rw c.in_default.is at
    (line_through c.args.stop c.args.session c.args.kernel c.in-Ok.now.1 c.args.lines.now c.loop-at.at c.index-lines-at.result c.loop-at.live c.in-Ok.now.0 _ _ _ c.if-is_none.kernel c.run_line.new.kernel lt c.index-lines-at.is through
    c.in-Ok.ensures.outcome c.in-Ok.ensures.schema c.in-Ok.ensures.restarts))

pub returns-clause-ran : goal.returns-clause-ran
returns-clause-ran g c =
    let end = c.loop-at.auto.at-end in
    let last = c.loop-at-test.false in
    let all : take c.loop-at.at c.args.lines.now ≡ c.args.lines.now = ap (λ n. take n c.args.lines.now) (omega (arith, end, last)) ∙ take-length c.args.lines.now in
    rw all at c.loop-at.invariant
