use Rattle.std.proofs.lemmas.Result.{err_from_is_err_and}
use Rattle.mt_alone.proofs.TurnLemmas.{abort_few, abort_goes, abort_refused}
use Rattle.mt_alone.proofs.turns.undo_open.Goals as goal

pub returns-in_err-abort_begin-clause-aborted : goal.returns-in_err-abort_begin-clause-aborted
returns-in_err-abort_begin-clause-aborted g c = λ p calls o.
    let D = g.D.Device in
    let e = c.in_err-abort_begin.ensures in
    let r = err_from_is_err_and c.from_residual.result c.from_residual.ensures.1 in
    rw (r.1, r.2) (abort_refused p c.args.kernel.now c.abort_begin.new.self c.args.txn calls c.in_err-abort_begin.field-0.0 o e.err e.cause)

pub returns-clause-aborted : goal.returns-clause-aborted
returns-clause-aborted g c = λ p calls o.
    let D = g.D.Device in
    let e = c.in_ok-abort_begin.ensures in
    c.undo.ensures.undone p (abort_goes p c.args.kernel.now c.abort_begin.new.self c.args.txn calls o e.state e.begins.state) (abort_few p c.args.kernel.now c.abort_begin.new.self c.args.txn calls o e.state e.begins.state e.begins.running)
