use Rattle.std.proofs.Common.{◌≤◌, drop, length}
use Rattle.std.specs.Io.KnownBytes.{Appends}
use Rattle.mt_replay.specs.Losers.{all_finished}
use Rattle.mt_explain.specs.Explanations.{undo_lines}
use Rattle.mt_explain.proofs.entries.write_all_undone.Given as goal

abbrev pub invariant-loop-i : goal.invariant-loop-i
invariant-loop-i g l = (l.i ≤ length l.losers) × Appends (g.W.Write.contents l.initial.writer) (g.W.Write.contents l.writer) (undo_lines (all_finished (drop l.i l.losers)))

abbrev pub decreases-loop-i : goal.decreases-loop-i
decreases-loop-i g l = l.i
