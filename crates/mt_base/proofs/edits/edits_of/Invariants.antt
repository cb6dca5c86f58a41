use Rattle.std.proofs.Common.{◌-◌, length}
use Rattle.mt_base.specs.Edits.{Edited}
use Rattle.mt_base.proofs.edits.edits_of.Given as goal

abbrev pub invariant-loop-last : goal.invariant-loop-last
invariant-loop-last l = Edited l.old l.new l.edits.items l.last

abbrev pub decreases-loop-last : goal.decreases-loop-last
decreases-loop-last l = length l.old - l.last
