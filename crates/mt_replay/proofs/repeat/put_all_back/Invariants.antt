use Rattle.std.proofs.Common.{◌≡◌, ◌≤◌, drop, length, map}
use Rattle.mt_space.specs.Changes.{PageBytes}
use Rattle.mt_space.specs.PageLists.{AreWhole}
use Rattle.mt_replay.specs.Memory.{AreFirst}
use Rattle.mt_replay.specs.Passes.{before_of, with_before}
use Rattle.mt_replay.proofs.repeat.put_all_back.Given as goal

abbrev pub invariant-loop-i : goal.invariant-loop-i
invariant-loop-i l = record {
  inside : l.i ≤ length l.list;
  whole : AreWhole l.pages.items;
  count : length l.pages.items ≡ length l.fn.pages.items;
  back : (f : PageBytes) → AreFirst l.fn.pages.items f → AreFirst l.pages.items (with_before (map before_of (drop l.i l.list)) f);
}

abbrev pub decreases-loop-i : goal.decreases-loop-i
decreases-loop-i l = l.i
