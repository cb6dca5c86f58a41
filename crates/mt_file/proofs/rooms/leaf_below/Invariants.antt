use Rattle.std.proofs.Common.{◌-◌, ◌≤◌, ◌<◌, get_or}
use Rattle.mt_file.specs.Rooms.{IsPassedTo}
use Rattle.mt_file.proofs.rooms.leaf_below.Given as goal

abbrev pub invariant-loop-node : goal.invariant-loop-node
invariant-loop-node l = record {
  low : 1 ≤ l.node;
  high : l.node < 8192;
  passed : IsPassedTo l.tree l.from l.least l.node;
  enough : l.least ≤ get_or l.tree l.node 0;
}

abbrev pub decreases-loop-node : goal.decreases-loop-node
decreases-loop-node l = 4096 - l.node
