use Rattle.std.proofs.Common.{None, take}
use Rattle.mt_alone.specs.Turnovers.{GoesThrough}
use Rattle.mt_alone.proofs.script_run.run_each.Given as goal

abbrev pub invariant-loop-at : goal.invariant-loop-at
invariant-loop-at g l =
    GoesThrough l.stop None l.session l.initial.kernel (take l.at l.lines) (g.W.Write.contents l.initial.writer) (g.W.Write.contents l.writer) l.live l.kernel
