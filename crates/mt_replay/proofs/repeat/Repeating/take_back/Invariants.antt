use Rattle.std.proofs.Common.{◌≡◌, ◌≤◌, drop, is_some, length}
use Rattle.std.specs.BTreeMap.{get}
use Rattle.std.specs.Ordering.{nat_cmp}
use Rattle.mt_log.specs.Batch.{joined}
use Rattle.mt_log.specs.Found.{records_of}
use Rattle.mt_space.specs.PageLists.{AreWhole}
use Rattle.mt_replay.specs.Memory.{AreFirst}
use Rattle.mt_replay.specs.Passes.{AreKnown, IsBackTo, left}
use Rattle.mt_space.specs.Changes.{PageBytes}
use Rattle.mt_replay.proofs.repeat.Repeating.take_back.Given as goal

abbrev pub invariant-loop-i : goal.invariant-loop-i
invariant-loop-i l = record {
  inside : l.i ≤ length l.batches;
  whole : AreWhole l.back.pages.items;
  count : length l.back.pages.items ≡ length l.fn.self.pages.items;
  back : (f : PageBytes) → AreFirst l.fn.self.pages.items f → AreKnown (λ o. is_some (get nat_cmp l.fn.self.unfinished o)) (left (joined (records_of l.batches)))
      → IsBackTo (λ o. is_some (get nat_cmp l.fn.self.unfinished o)) l.back (joined (records_of (drop l.i l.batches))) f;
}

abbrev pub decreases-loop-i : goal.decreases-loop-i
decreases-loop-i l = l.i
