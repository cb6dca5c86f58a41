use Rattle.std.proofs.Common.{arith}
use Rattle.mt_slots.proofs.Compacting.{packed_start, packed_skip, compacted}
use Rattle.mt_slots.proofs.compaction.pack.Goals.{then-size_of-ne0, else-size_of-ne0}
use Rattle.mt_slots.proofs.compaction.pack.Goals as goal

pub loop-i-init : goal.loop-i-init
loop-i-init c = rw c.requires.equal (packed_start c.args.copy.now c.requires.shaped)

pub loop-i-preserved : goal.loop-i-preserved
loop-i-preserved c = elim c.if-size_of-ne0.branch [
  | then-size_of-ne0 w ↦ rw (w.page-is, w.top-is) w.move_up-top.ensures
  | else-size_of-ne0 w ↦ rw (w.page-is, w.top-is) (packed_skip c.args.copy.now c.loop-i.page c.loop-i.i c.loop-i.top c.loop-i.invariant (omega arith) (omega arith))
]

pub returns-clause-shaped : goal.returns-clause-shaped
returns-clause-shaped c = (compacted c.args.copy.now c.loop-i.page c.loop-i.i c.loop-i.top c.requires.shaped (omega arith) c.loop-i.invariant).0

pub returns-clause-same : goal.returns-clause-same
returns-clause-same c = (compacted c.args.copy.now c.loop-i.page c.loop-i.i c.loop-i.top c.requires.shaped (omega arith) c.loop-i.invariant).1
