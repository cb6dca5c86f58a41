use Rattle.std.proofs.Common.{◌≡◌, length, take, false}
use Rattle.mt_space.specs.Changes.{PageBytes, after, AreShort}
use Rattle.mt_space.proofs.space_map.SpaceMap.follow.Given as goal

abbrev pub invariant-loop-change : goal.invariant-loop-change
invariant-loop-change l = record {
  whole : length l.self.kinds.value ≡ 4096;
  kinds : (pages : PageBytes) → pages 0 ≡ l.fn.self.kinds.value → AreShort l.changes.list.items pages → l.self.kinds.value ≡ after (take l.change-index l.changes.list.items) pages 0;
  none : l.followed ≡ false → l.self.kinds.value ≡ l.fn.self.kinds.value;
  space : l.self.space ≡ l.fn.self.space;
}
