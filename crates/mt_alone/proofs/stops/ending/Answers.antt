use Rattle.std.proofs.Common.{refl}
use Rattle.mt_alone.proofs.StopLemmas.{ends_one}
use Rattle.mt_alone.proofs.stops.ending.Goals as goal

pub returns-then-stop : goal.returns-then-stop
returns-then-stop c = rw c.if-stop.true (ends_one c.args.answer.now c.stop_of.result c.stop_of.ensures)

pub returns-else-stop : goal.returns-else-stop
returns-else-stop c = rw c.if-stop.false refl
