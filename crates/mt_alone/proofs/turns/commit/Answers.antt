use Rattle.std.proofs.lemmas.Result.{err_from_is_err_and}
use Rattle.mt_frame.specs.declared.records.Record.TheVariants as record_of
use Rattle.mt_alone.proofs.TurnLemmas.{commit_done, commit_ends, commit_refused}
use Rattle.mt_alone.proofs.turns.commit.Goals as goal

pub returns-in_err-force_commit-in-Ok-clause-answers : goal.returns-in_err-force_commit-in-Ok-clause-answers
returns-in_err-force_commit-in-Ok-clause-answers g c = λ p (calls, under, o).
    let D = g.D.Device in
    let e = c.in-Ok.ensures in
    let r = err_from_is_err_and c.from_residual.result c.from_residual.ensures.1 in
    rw (r.1, r.2) (c.in_err-force_commit-in-Ok.ensures.committed p calls (commit_ends p c.args.kernel.now c.commit_begin.new.self c.args.txn calls o e.state e.logs.queue (record_of.Commit c.args.txn) e.logs.waits))

pub returns-in_ok-force_commit-in-Ok-clause-answers : goal.returns-in_ok-force_commit-in-Ok-clause-answers
returns-in_ok-force_commit-in-Ok-clause-answers g c = λ p (calls, under, o).
    let D = g.D.Device in
    let e = c.in-Ok.ensures in
    commit_done p c.args.kernel.now c.force_commit.new.kernel c.args.txn c.in-Ok.place calls under o e.place
    (c.in_ok-force_commit-in-Ok.ensures.committed p calls (commit_ends p c.args.kernel.now c.commit_begin.new.self c.args.txn calls o e.state e.logs.queue (record_of.Commit c.args.txn) e.logs.waits))

pub returns-in-Err-clause-answers : goal.returns-in-Err-clause-answers
returns-in-Err-clause-answers g c = λ p (calls, under, o).
    let D = g.D.Device in
    let e = c.in-Err.ensures in
    rw c.refused.ensures (commit_refused p c.args.kernel.now c.commit_begin.new.self c.args.txn calls c.in-Err.refusal under o e.state e.logs.err.0 e.cause (λ w is. (e.early w is).1))
