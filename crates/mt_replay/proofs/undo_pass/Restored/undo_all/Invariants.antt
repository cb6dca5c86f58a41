use Rattle.std.proofs.Common.{◌≤◌, drop, length}
use Rattle.mt_replay.specs.Losers.{HasUndone}
use Rattle.mt_replay.proofs.undo_pass.Restored.undo_all.Given as goal

abbrev pub invariant-loop-i : goal.invariant-loop-i
invariant-loop-i l = record {
  inside : l.i ≤ length l.losers;
  done : HasUndone l.fn.self.pages.items (drop l.i l.losers) l.restored.pages.items;
}

abbrev pub decreases-loop-i : goal.decreases-loop-i
decreases-loop-i l = l.i
