use Rattle.std.proofs.Common.{◌≡◌, false, None, Some}
use Rattle.std.proofs.lemmas.Result.{IfErr-weaker, on_ok_weaker}
use Rattle.mt_alone.specs.Driven.{IsBeside}
use Rattle.mt_alone.specs.Plays.{Play}
use Rattle.mt_alone.specs.Runs.{IsCutAtEnd, IsCutShort, IsEndedFor}
use Rattle.mt_alone.proofs.RunLemmas.{closed_run, cut_ended, end_cut, ended_run}
use Rattle.mt_alone.proofs.alone.run_alone.Goals as goal

pub returns-in-Some-clause-ran : goal.returns-in-Some-clause-ran
returns-in-Some-clause-ran g c =
    let D = g.D.Device in
    let k = c.args.kernel.now in
    let ran = rw c.in-Some.is at (rw c.lines.ensures at c.in_ok-txn.ensures.ran) in
    on_ok_weaker c.end_live.result (λ ended. λ p own b. ended_run p k false None c.args.script.now.lines.items c.in-Some.txn _ _ _ c.run_lines.new.kernel c.end_live.new.kernel (ran p own b) ended) c.end_live.ensures.ended

pub returns-in-Some-clause-cut : goal.returns-in-Some-clause-cut
returns-in-Some-clause-cut g c =
    let D = g.D.Device in
    let k = c.args.kernel.now in
    let ran = rw c.in-Some.is at (rw c.lines.ensures at c.in_ok-txn.ensures.ran) in
    IfErr-weaker c.end_live.result
    (λ why. (p : Play) → IsBeside p (Some c.in-Some.txn) c.run_lines.new.kernel → IsCutAtEnd p (g.W.Write.contents c.run_lines.new.writer) (g.W.Write.contents c.end_live.new.writer) c.end_live.new.kernel why)
    (λ why. (p : Play) → p.session ≡ c.args.session → IsBeside p None k
    → IsCutShort p k c.args.script.now.lines.items (g.W.Write.contents c.args.writer.now) (g.W.Write.contents c.end_live.new.writer) c.end_live.new.kernel why)
    (λ why cut p own b. end_cut p k false None c.args.script.now.lines.items c.in-Some.txn _ _ _ c.run_lines.new.kernel c.end_live.new.kernel why (ran p own b) cut) c.end_live.ensures.cut

pub returns-in-Some-clause-why : goal.returns-in-Some-clause-why
returns-in-Some-clause-why g c =
    let D = g.D.Device in
    let k = c.args.kernel.now in
    let ran = rw c.in-Some.is at (rw c.lines.ensures at c.in_ok-txn.ensures.ran) in
    IfErr-weaker c.end_live.result
    (λ why. (p : Play) → IsBeside p (Some c.in-Some.txn) c.run_lines.new.kernel → IsCutAtEnd p (g.W.Write.contents c.run_lines.new.writer) (g.W.Write.contents c.end_live.new.writer) c.end_live.new.kernel why)
    (λ why. (p : Play) → p.session ≡ c.args.session → IsBeside p None k → IsEndedFor c.end_live.new.kernel why)
    (λ why cut p own b. cut_ended p k c.args.script.now.lines.items _ _ c.end_live.new.kernel why
    (end_cut p k false None c.args.script.now.lines.items c.in-Some.txn _ _ _ c.run_lines.new.kernel c.end_live.new.kernel why (ran p own b) cut)) c.end_live.ensures.cut

pub returns-in-None-clause-ran : goal.returns-in-None-clause-ran
returns-in-None-clause-ran g c = λ p own b.
    let D = g.D.Device in
    let k = c.args.kernel.now in
    let ran = rw c.in-None.is at (rw c.lines.ensures at c.in_ok-txn.ensures.ran) in
    closed_run p k false None c.args.script.now.lines.items _ _ c.run_lines.new.kernel (ran p own b)
