use Rattle.std.proofs.lemmas.Result.{err_from_is_err_and}
use Rattle.mt_alone.proofs.TurnLemmas.{back_done, back_few, back_goes, back_refused}
use Rattle.mt_alone.proofs.turns.back.Goals as goal

pub returns-in_err-go_back-in-Ok-clause-answers : goal.returns-in_err-go_back-in-Ok-clause-answers
returns-in_err-go_back-in-Ok-clause-answers g c = λ p (calls, under, o).
    let e = c.in-Ok.ensures in
    let r = err_from_is_err_and c.from_residual.result c.from_residual.ensures.1 in
    rw (r.1, r.2) (c.in_err-go_back-in-Ok.ensures.returned p c.args.first calls (back_goes p c.args.kernel.now c.back_begin.new.self c.args.txn c.args.first calls o e.state e.begins.state) (back_few p c.args.kernel.now c.back_begin.new.self c.args.txn c.args.first calls o e.state e.begins.state e.begins.running))

pub returns-in_ok-go_back-in-Ok-clause-answers : goal.returns-in_ok-go_back-in-Ok-clause-answers
returns-in_ok-go_back-in-Ok-clause-answers g c = λ p (calls, under, o).
    let e = c.in-Ok.ensures in
    back_done p c.args.kernel.now c.go_back.new.kernel c.args.txn c.args.first calls under o e.standing
    (c.in_ok-go_back-in-Ok.ensures.returned p c.args.first calls (back_goes p c.args.kernel.now c.back_begin.new.self c.args.txn c.args.first calls o e.state e.begins.state) (back_few p c.args.kernel.now c.back_begin.new.self c.args.txn c.args.first calls o e.state e.begins.state e.begins.running))

pub returns-in-Err-clause-answers : goal.returns-in-Err-clause-answers
returns-in-Err-clause-answers g c = λ p (calls, under, o).
    let e = c.in-Err.ensures in
    rw c.refused.ensures (back_refused p c.args.kernel.now c.back_begin.new.self c.args.txn c.args.first calls c.in-Err.refusal under o e.err e.cause e.standing)
