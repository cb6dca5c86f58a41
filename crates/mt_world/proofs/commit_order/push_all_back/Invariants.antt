use Rattle.std.proofs.Common.{◌≡◌, ◌≤◌, ◌++◌, drop, length}
use Rattle.mt_model.specs.Backwards.{calls_back}
use Rattle.mt_world.proofs.commit_order.push_all_back.Given as goal

abbrev pub invariant-loop-i : goal.invariant-loop-i
invariant-loop-i l = (l.i ≤ length l.taken) × (l.calls ≡ l.initial.calls ++ calls_back (drop l.i l.taken))

abbrev pub decreases-loop-i : goal.decreases-loop-i
decreases-loop-i l = l.i
