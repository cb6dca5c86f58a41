use Rattle.std.proofs.Common.{Err, ap}
use Rattle.mt_base.specs.declared.refusal.Refusal.{Refusal}
use Rattle.mt_alone.proofs.TurnLemmas.{begin_done, begin_refused}
use Rattle.mt_alone.proofs.turns.begin.Goals as goal

pub returns-in-Ok-clause-answers : goal.returns-in-Ok-clause-answers
returns-in-Ok-clause-answers g c = λ p own r.
    let D = g.D.Device in
    let e = c.in-Ok.ensures in
    begin_done p c.args.kernel.now c.begin.new.self c.args.session c.in-Ok.txn own r e.number e.begun e.opened

pub returns-in-Err-clause-answers : goal.returns-in-Err-clause-answers
returns-in-Err-clause-answers g c = λ p own r.
    let D = g.D.Device in
    let e = c.in-Err.ensures in
    rw c.refused.ensures (begin_refused p c.args.kernel.now c.begin.new.self c.in-Err.refusal r e.err e.schema (λ is. e.fails.1 (ap (λ (w : Refusal). Err w) is)) e.cause)
