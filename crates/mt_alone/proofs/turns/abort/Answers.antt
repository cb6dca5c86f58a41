use Rattle.std.proofs.Common.{refl, Some}
use Rattle.mt_script.specs.declared.lines.Line.TheVariants as line
use Rattle.mt_alone.specs.Plays.{put_off}
use Rattle.mt_alone.proofs.TurnLemmas.{turn_acts}
use Rattle.mt_alone.proofs.turns.abort.Goals as goal

pub returns-clause-answers : goal.returns-clause-answers
returns-clause-answers g c = λ p (calls, under, o).
    (put_off p, turn_acts c.args.kernel.now.relations c.args.kernel.now.counters p (Some calls) line.Abort under refl, c.in_ok-undo_open.ensures.aborted p calls o)
