use Rattle.std.proofs.Common.{[], ◌≡◌, ◌<◌, ◌+◌, ℕ, suc, take, length, arith, Ok, Option, None, Some, refl, subst, ◌∙◌}
use Rattle.std.proofs.lemmas.Result.{err_from_is_err_and}
use Rattle.mt_server.proofs.AttemptLemmas.{at_end, begun_at, ended_at, line_more, own_at, stopped_at, waits_on}
use Rattle.mt_server.specs.Hearing.{HasRan, Reached, Turning, within}
use Rattle.mt_locked.specs.Tokens.{TxnSeen, open_calls}
use Rattle.mt_server.specs.declared.attempts.Progress.TheVariants as progress
use Rattle.mt_server.proofs.attempts.go_on.Goals as goal

pub loop-line-init : goal.loop-line-init
loop-line-init g c = record { count = refl; pass = refl; reached = λ booked. begun_at g.J.Naming.base c.args.txn.done.session booked c.args.txn c.args.pass.now c.args.lines.now c.args.out.now.items c.requires.own refl }

pub answer_line-requires : goal.answer_line-requires
answer_line-requires g c = record { own = (own_at g.J.Naming.base c.args.txn.done.session c.loop-line.kept c.loop-line.pass (c.loop-line.invariant.reached [])).0 }

pub returns-in_err-back-clause-runs : goal.returns-in_err-back-clause-runs
returns-in_err-back-clause-runs g c = λ booked.
    let r = err_from_is_err_and c.from_residual.result c.from_residual.ensures.1 in
    rw (r.1, r.2) (stopped_at g.J.Naming.base c.args.txn.done.session (within booked (open_calls c.args.txn) c.args.pass.now) c.args.lines.now c.loop-line.line-index c.line-item.result c.args.out.now.items c.loop-line.out.items c.answer_line.new.out.items
    c.loop-line.kept c.loop-line.pass c.answer_line.new.pass c.in_err-back.field-0.0 (omega arith) c.line-item.is c.loop-line.invariant.pass (c.loop-line.invariant.reached booked) c.in_err-back.ensures.turns)

pub returns-in-None-clause-runs : goal.returns-in-None-clause-runs
returns-in-None-clause-runs g c = λ booked.
    let lt : c.loop-line.line-index < length c.args.lines.now = omega arith in
    let one : suc c.loop-line.line-index ≡ c.loop-line.count + 1 = omega (arith, c.loop-line.invariant.count) in
    let start = within booked (open_calls c.args.txn) c.args.pass.now in
    let turns = subst (λ (t : Option TxnSeen). Turning g.J.Naming.base c.loop-line.kept c.loop-line.pass c.line-item.result c.loop-line.out.items c.answer_line.new.out.items c.answer_line.new.pass (Ok t)) c.in-None.is c.in_ok-back.ensures.turns in
    let more = line_more g.J.Naming.base c.args.txn.done.session start c.args.lines.now c.loop-line.line-index c.line-item.result c.args.out.now.items c.loop-line.out.items c.answer_line.new.out.items c.loop-line.kept c.loop-line.pass c.answer_line.new.pass None lt c.line-item.is
    (c.loop-line.invariant.reached booked) turns in
    subst (λ (n : ℕ). HasRan g.J.Naming.base c.args.txn.done.session start c.args.lines.now c.args.out.now.items c.answer_line.new.out.items c.answer_line.new.pass (progress.Ended n)) one
    (ended_at g.J.Naming.base c.args.txn.done.session start c.args.lines.now (suc c.loop-line.line-index) c.args.out.now.items c.answer_line.new.out.items c.answer_line.new.pass (omega (arith, lt)) more)

pub loop-line-preserved : goal.loop-line-preserved
loop-line-preserved g c =
    let lt : c.loop-line.line-index < length c.args.lines.now = omega arith in
    let one : suc c.loop-line.line-index ≡ c.loop-line.line-index + 1 = omega arith in
    let turns = subst (λ (t : Option TxnSeen). Turning g.J.Naming.base c.loop-line.kept c.loop-line.pass c.line-item.result c.loop-line.out.items c.answer_line.new.out.items c.answer_line.new.pass (Ok t)) c.in-Some.is c.in_ok-back.ensures.turns in
    record {
      count = omega (arith, c.loop-line.invariant.count);
      pass = waits_on g.J.Naming.base c.args.txn.done.session c.line-item.result c.loop-line.out.items c.answer_line.new.out.items c.loop-line.kept c.in-Some.back c.loop-line.pass c.answer_line.new.pass turns ∙ c.loop-line.invariant.pass;
      reached = λ booked. subst (λ (n : ℕ). Reached g.J.Naming.base c.args.txn.done.session (within booked (open_calls c.args.txn) c.args.pass.now) (take n c.args.lines.now) c.args.out.now.items c.answer_line.new.out.items (Some c.in-Some.back) c.answer_line.new.pass) one
          (line_more g.J.Naming.base c.args.txn.done.session (within booked (open_calls c.args.txn) c.args.pass.now) c.args.lines.now c.loop-line.line-index c.line-item.result c.args.out.now.items c.loop-line.out.items c.answer_line.new.out.items c.loop-line.kept c.loop-line.pass
          c.answer_line.new.pass (Some c.in-Some.back) lt c.line-item.is (c.loop-line.invariant.reached booked) turns);
    }

pub returns-clause-runs : goal.returns-clause-runs
returns-clause-runs g c = λ booked.
    let whole : c.loop-line.line-index ≡ length c.args.lines.now = omega arith in
    let start = within booked (open_calls c.args.txn) c.args.pass.now in
    let reached = subst (λ (n : ℕ). Reached g.J.Naming.base c.args.txn.done.session start (take n c.args.lines.now) c.args.out.now.items c.loop-line.out.items (Some c.loop-line.kept) c.loop-line.pass) whole (c.loop-line.invariant.reached booked) in
    at_end g.J.Naming.base c.args.txn.done.session start c.args.lines.now c.args.out.now.items c.loop-line.out.items c.end.new.out.items c.loop-line.kept c.loop-line.pass c.end.new.pass c.end.result c.loop-line.invariant.pass reached c.end.ensures
