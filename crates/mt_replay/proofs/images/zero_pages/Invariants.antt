use Rattle.std.proofs.Common.{◌≡◌, length}
use Rattle.mt_space.specs.PageLists.{AreWhole}
use Rattle.mt_replay.proofs.images.zero_pages.Given as goal

abbrev pub invariant-loop-page : goal.invariant-loop-page
invariant-loop-page l = record {
  whole : AreWhole l.pages.items;
  count : length l.pages.items ≡ l._page;
}
