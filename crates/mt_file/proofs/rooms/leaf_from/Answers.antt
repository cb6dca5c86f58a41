use Rattle.std.proofs.Common.{◌∙◌, ◌+◌, ◌/◌, ℕ, refl, ap, arith}
use Rattle.mt_file.proofs.Trees.{passed_begin, passed_next, passed_up, none_passed}
use Rattle.mt_file.proofs.rooms.leaf_from.Goals as goal

pub loop-node-init : goal.loop-node-init
loop-node-init c = let leaf = c.requires.leaf in record {
  low = let low = leaf.0 in omega arith;
  high = let high = leaf.1 in omega arith;
  last = omega arith;
  passed = (passed_begin c.args.tree.now c.args.from c.args.least c.requires.nodes leaf, refl);
}

pub returns-then-node-last-clause-none : goal.returns-then-node-last-clause-none
returns-then-node-last-clause-none c =
    let p = c.loop-node.invariant.passed in
    none_passed c.args.tree.now c.args.from c.args.least c.requires.nodes c.requires.leaf c.loop-node.node p.0 c.loop-node-test.true (c.if-node-last.true ∙ p.1)

pub loop-node-preserved-then-node-eq0 : goal.loop-node-preserved-then-node-eq0
loop-node-preserved-then-node-eq0 c =
    let before = c.loop-node.invariant in
    let p = before.passed in
    let node = c.loop-node.node in
    let high = before.high in
    let other = c.if-node-last.false in
    let far = p.1 in
    let next = passed_next c.args.tree.now c.args.from c.args.least c.requires.nodes c.requires.leaf node p.0 c.loop-node-test.true (omega arith) in
    record {
      low = let low = before.low in omega arith;
      high = omega arith;
      last = let last = before.last in omega arith;
      passed = (passed_up c.args.tree.now c.args.from c.args.least c.requires.nodes c.requires.leaf (node + 1) next c.if-node-eq0.true, ap (λ (k : ℕ). k / 2) far);
    }

pub loop-node-preserved : goal.loop-node-preserved
loop-node-preserved c =
    let before = c.loop-node.invariant in
    let p = before.passed in
    let high = before.high in
    let other = c.if-node-last.false in
    let far = p.1 in
    record {
      low = omega arith;
      high = omega arith;
      last = before.last;
      passed = (passed_next c.args.tree.now c.args.from c.args.least c.requires.nodes c.requires.leaf c.loop-node.node p.0 c.loop-node-test.true (omega arith), far);
    }
