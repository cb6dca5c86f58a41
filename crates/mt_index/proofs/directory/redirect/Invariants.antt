-- The pointers below i are as they are to be.
use Rattle.mt_index.proofs.Wiring.{SoFar}
use Rattle.mt_index.proofs.directory.redirect.Given as goal

abbrev pub invariant-loop-i : goal.invariant-loop-i
invariant-loop-i l = SoFar l.from l.to l.bit l.initial.directory l.directory l.i
