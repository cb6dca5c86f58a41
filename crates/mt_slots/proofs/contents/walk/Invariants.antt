use Rattle.mt_slots.specs.Parts.{Surveyed}
use Rattle.mt_slots.proofs.contents.walk.Given as goal

abbrev pub invariant-loop-i : goal.invariant-loop-i
invariant-loop-i l = Surveyed l.page l.i l.live l.empty l.low
