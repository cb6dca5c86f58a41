use Rattle.std.proofs.Common.{◌≡◌, ◌-◌, ◌*◌, ◌≤◌, ◌<◌}
use Rattle.mt_file.specs.Rooms.{above, IsPassedTo}
use Rattle.mt_file.proofs.rooms.leaf_from.Given as goal

abbrev pub invariant-loop-node : goal.invariant-loop-node
invariant-loop-node l = record {
  low : 1 ≤ l.node;
  high : l.node ≤ l.last;
  last : l.last < 8192;
  passed : (p : IsPassedTo l.tree l.from l.least l.node) × (l.last ≡ above p.height 8191);
}

abbrev pub decreases-loop-node : goal.decreases-loop-node
decreases-loop-node l = 2 * l.last - l.node
