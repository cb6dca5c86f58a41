use Rattle.mt_alone.proofs.TurnLemmas.{stranger}
use Rattle.mt_alone.proofs.turns.answer_outside.Goals as goal

pub returns-in-Call-clause-answers : goal.returns-in-Call-clause-answers
returns-in-Call-clause-answers g c = λ p own r.
    rw c.refused.ensures (p, stranger c.args.kernel.now.relations c.args.kernel.now.counters p c.args.line.now r.nothing c.in-Call.is, r)
