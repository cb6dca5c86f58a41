use Rattle.std.proofs.Common.{◌<◌, ℕ, length}
use Rattle.mt_space.specs.Changes.{PageBytes}
use Rattle.mt_replay.specs.Memory.{AreFirst}
use Rattle.mt_replay.specs.Undoing.{Takes}
use Rattle.mt_replay.proofs.undo_pass.Restored.room_for.Given as goal

abbrev pub invariant-loop-number : goal.invariant-loop-number
invariant-loop-number l = (f : PageBytes) → AreFirst l.self.pages.items f → (p : ℕ) → p < l.number → Takes (length l.self.pages.items) l.bytes f p → ⊥
