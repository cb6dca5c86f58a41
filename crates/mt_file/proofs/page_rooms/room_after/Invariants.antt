use Rattle.std.proofs.Common.{◌≡◌, length, take}
use Rattle.mt_space.specs.Changes.{PageBytes, after, AreShort}
use Rattle.mt_file.proofs.page_rooms.room_after.Given as goal

abbrev pub invariant-loop-change : goal.invariant-loop-change
invariant-loop-change l = record {
  whole : length l.bytes ≡ 4096;
  bytes : (pages : PageBytes) → pages l.page ≡ l.before → AreShort l.changes.list.items pages → l.bytes ≡ after (take l.change-index l.changes.list.items) pages l.page;
}
