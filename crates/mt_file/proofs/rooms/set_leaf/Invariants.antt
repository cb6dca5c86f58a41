use Rattle.std.proofs.Common.{◌≡◌, ◌≢◌, ◌-◌, ◌≤◌, ◌<◌, ◌/◌, ℕ, get_or}
use Rattle.mt_file.specs.Rooms.{IsTreeBut}
use Rattle.mt_file.proofs.rooms.set_leaf.Given as goal

abbrev pub invariant-loop-node : goal.invariant-loop-node
invariant-loop-node l = record {
  low : 1 ≤ l.node;
  high : l.node < 8192;
  nodes : IsTreeBut l.tree (l.node / 2);
  here : get_or l.tree l.leaf 0 ≡ l.value;
  others : (i : ℕ) → 4096 ≤ i → i ≢ l.leaf → get_or l.tree i 0 ≡ get_or l.fn.tree i 0;
}

abbrev pub decreases-loop-node : goal.decreases-loop-node
decreases-loop-node l = l.node - 1
