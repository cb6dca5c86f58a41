use Rattle.std.proofs.Common.{refl}
use Rattle.mt_script.specs.declared.lines.Line.TheVariants as line
use Rattle.mt_alone.proofs.TurnLemmas.{idle_refused, save_done}
use Rattle.mt_alone.proofs.turns.save.Goals as goal

pub returns-in-Ok-clause-answers : goal.returns-in-Ok-clause-answers
returns-in-Ok-clause-answers g c = λ p (calls, under, o).
    save_done p c.args.kernel.now c.args.txn c.in-Ok.count calls under o c.in-Ok.ensures.standing

pub returns-in-Err-clause-answers : goal.returns-in-Err-clause-answers
returns-in-Err-clause-answers g c = λ p (calls, under, o).
    rw c.refused.ensures (idle_refused p c.args.kernel.now c.args.kernel.now c.args.txn calls line.Save c.in-Err.refusal under o refl c.in-Err.ensures.cause)
