use Rattle.std.proofs.Common.{◌≡◌, ◌+◌, ◌*◌, ◌≤◌, ◌<◌, ℕ, get_or, sym, subst, arith}
use Rattle.mt_file.specs.Rooms.{IsPassedTo}
use Rattle.mt_file.proofs.Trees.{above_least, passed_down, passed_right, first_leaf}
use Rattle.mt_file.proofs.rooms.leaf_below.Goals as goal

pub loop-node-init : goal.loop-node-init
loop-node-init c =
    let passed = c.requires.passed in
    let low = passed.low in
    let high = passed.high in
    let least = above_least passed.height 8191 in
    record {
      low = omega arith;
      high = omega arith;
      passed = passed;
      enough = c.requires.enough;
    }

pub loop-node-preserved-then-tree-node : goal.loop-node-preserved-then-tree-node
loop-node-preserved-then-tree-node c =
    let before = c.loop-node.invariant in
    let tree = c.args.tree.now in
    let node = c.loop-node.node in
    let twice : node * 2 ≡ 2 * node = omega arith in
    let left = passed_down tree c.args.from c.args.least c.requires.nodes c.requires.leaf node before.passed c.loop-node-test.true in
    let less : get_or tree (2 * node) 0 < c.args.least = subst (λ (i : ℕ). get_or tree i 0 < c.args.least) twice c.if-tree-node.true in
    let most = c.requires.nodes node before.low c.loop-node-test.true in
    let enough : c.args.least ≤ get_or tree (2 * node + 1) 0 = let high = before.enough in omega (arith, most, less, high) in
    record {
      low = omega arith;
      high = let inner = c.loop-node-test.true in omega arith;
      passed = subst (λ (i : ℕ). IsPassedTo tree c.args.from c.args.least (i + 1)) (sym twice) (passed_right tree c.args.from c.args.least c.requires.nodes c.requires.leaf node left less);
      enough = subst (λ (i : ℕ). c.args.least ≤ get_or tree (i + 1) 0) (sym twice) enough;
    }

pub loop-node-preserved : goal.loop-node-preserved
loop-node-preserved c =
    let before = c.loop-node.invariant in
    let tree = c.args.tree.now in
    let node = c.loop-node.node in
    let twice : node * 2 ≡ 2 * node = omega arith in
    let left = passed_down tree c.args.from c.args.least c.requires.nodes c.requires.leaf node before.passed c.loop-node-test.true in
    record {
      low = let low = before.low in omega arith;
      high = let inner = c.loop-node-test.true in omega arith;
      passed = subst (IsPassedTo tree c.args.from c.args.least) (sym twice) left;
      enough = let not = c.if-tree-node.false in omega arith;
    }

pub returns : goal.returns
returns c =
    let before = c.loop-node.invariant in
    first_leaf c.args.tree.now c.args.from c.args.least c.requires.nodes c.requires.leaf c.loop-node.node before.passed (let past = c.loop-node-test.false in omega arith) before.enough
