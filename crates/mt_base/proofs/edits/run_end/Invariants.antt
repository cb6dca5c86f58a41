use Rattle.std.proofs.Common.{◌≢◌, ◌-◌, ◌<◌, ◌≤◌, length, get_or}
use Rattle.mt_base.specs.Edits.{LastDiffers}
use Rattle.mt_base.proofs.edits.run_end.Given as goal

abbrev pub invariant-loop-end : goal.invariant-loop-end
invariant-loop-end l = record {
  after : l.fn.i < l.end;
  within : l.end ≤ length l.old;
  last : get_or l.old (l.end - 1) 0 ≢ get_or l.new (l.end - 1) 0;
  next : LastDiffers l.old l.new l.end l.next;
}

abbrev pub decreases-loop-end : goal.decreases-loop-end
decreases-loop-end l = length l.old - l.end
