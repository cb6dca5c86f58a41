use Rattle.std.proofs.Common.{◌≡◌, ℕ, None, length, get_or}
use Rattle.mt_space.specs.Changes.{PageBytes, Agrees, AreShort}
use Rattle.mt_op.specs.World.{looked, changes_in}
use Rattle.mt_op.proofs.Noted.{AreNoted}
use Rattle.mt_op.proofs.operations.Operations.note_each.Given as goal

abbrev pub invariant-loop-guard : goal.invariant-loop-guard
invariant-loop-guard g l = record {
  store : l.self.store ≡ l.fn.self.store;
  locks : l.self.locks ≡ l.fn.self.locks;
  map : l.self.map ≡ l.fn.self.map;
  rooms : length l.self.rooms ≡ length l.fn.self.rooms;
  others : (p : ℕ) → looked l.scope p ≡ None → get_or l.self.rooms p 0 ≡ get_or l.fn.self.rooms p 0;
  noted : (pages : PageBytes) → Agrees (looked l.scope) pages → AreShort (changes_in l.scope) pages → AreNoted l.scope l.guard-index l.fn.self.map.kinds.value l.self.rooms pages;
}
