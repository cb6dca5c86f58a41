use Rattle.std.proofs.Common.{Ok, ap, refl}
use Rattle.std.proofs.lemmas.Result.{err_from_is_err_and}
use Rattle.mt_alone.proofs.CallLemmas.{call_faultless, call_refused, call_replied, call_started, call_waits}
use Rattle.mt_alone.proofs.turns.call.Goals as goal

pub returns-in_err-reply-in-Ok-Started-clause-answers : goal.returns-in_err-reply-in-Ok-Started-clause-answers
returns-in_err-reply-in-Ok-Started-clause-answers g c = λ p (calls, under, o).
    let D = g.D.Device in
    let e = c.in-Ok-Started.ensures in
    let r = err_from_is_err_and c.from_residual.result c.from_residual.ensures.1 in
    let started = call_started p c.args.kernel.now c.args.txn calls c.args.op.now c.call.new.self o (rw c.in-Ok-Started.field-0-is at e.called) e.states (rw c.in-Ok-Started.field-0-is at e.runs) in
    rw (r.1, r.2) (c.in_err-reply-in-Ok-Started.ensures.replied p calls c.args.op.now started.0 started.1)

pub returns-in_ok-reply-in-Ok-Started-clause-answers : goal.returns-in_ok-reply-in-Ok-Started-clause-answers
returns-in_ok-reply-in-Ok-Started-clause-answers g c = λ p (calls, under, o).
    let D = g.D.Device in
    let e = c.in-Ok-Started.ensures in
    let started = call_started p c.args.kernel.now c.args.txn calls c.args.op.now c.call.new.self o (rw c.in-Ok-Started.field-0-is at e.called) e.states (rw c.in-Ok-Started.field-0-is at e.runs) in
    let none = call_faultless p c.args.kernel.now c.args.txn calls c.args.op.now _ c.in-Ok-Started.field-0 refl o (λ w is. (e.early w is).0) in
    (call_replied p c.args.kernel.now c.args.txn calls c.args.op.now c.step_to_reply.new.kernel c.in_ok-reply-in-Ok-Started.reply under none (c.in_ok-reply-in-Ok-Started.ensures.replied p calls c.args.op.now started.0 started.1))

pub returns-in-Ok-Wait-clause-answers : goal.returns-in-Ok-Wait-clause-answers
returns-in-Ok-Wait-clause-answers g c = λ p (calls, under, o).
    let D = g.D.Device in
    let e = c.in-Ok-Wait.ensures in
    absurd (call_waits p c.args.kernel.now c.args.txn calls c.args.op.now _ _ (ap Ok c.in-Ok-Wait.field-0-is) o (λ w is. (e.early w is).0) e.answer)

pub returns-in-Err-clause-answers : goal.returns-in-Err-clause-answers
returns-in-Err-clause-answers g c = λ p (calls, under, o).
    let D = g.D.Device in
    let e = c.in-Err.ensures in
    rw c.refused.ensures (call_refused p c.args.kernel.now c.args.txn calls c.args.op.now c.call.new.self _ c.in-Err.refusal refl under o (λ w is. (e.early w is).0) e.answer (λ w is. (e.early w is).1) e.called e.states)
