use Rattle.std.proofs.Common.{refl, Some}
use Rattle.mt_script.specs.declared.lines.Line.TheVariants as line
use Rattle.mt_alone.proofs.TurnLemmas.{turn_acts}
use Rattle.mt_alone.proofs.turns.answer_within.Goals as goal

pub returns-in-Begin-clause-answers : goal.returns-in-Begin-clause-answers
returns-in-Begin-clause-answers g c = λ p b.
    rw (c.in-Begin.is, c.refused.ensures) (p, turn_acts c.args.kernel.now.relations c.args.kernel.now.counters p (Some b.0) line.Begin b.1 refl, b)
