use Rattle.std.proofs.Common.{◌-◌, length}
use Rattle.mt_base.specs.Edits.{AreEqual}
use Rattle.mt_base.proofs.edits.equal_words.Given as goal

abbrev pub invariant-loop-at : goal.invariant-loop-at
invariant-loop-at l = AreEqual l.old l.new l.from l.at

abbrev pub decreases-loop-at : goal.decreases-loop-at
decreases-loop-at l = length l.old - l.at
