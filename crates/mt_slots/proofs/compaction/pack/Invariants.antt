use Rattle.mt_slots.specs.Parts.{Packed}
use Rattle.mt_slots.proofs.compaction.pack.Given as goal

abbrev pub invariant-loop-i : goal.invariant-loop-i
invariant-loop-i l = Packed l.copy l.page l.i l.top
