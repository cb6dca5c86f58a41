use Rattle.std.proofs.Common.{◌≤◌, ◌<◌, ◌-◌, ℕ, length}
use Rattle.mt_file.specs.Rooms.{Takes}
use Rattle.mt_op.specs.Holds.{IsUnlocked}
use Rattle.mt_op.proofs.operations.Operations.room_for.Given as goal

-- each page so far that takes the record is locked
abbrev pub invariant-loop-page : goal.invariant-loop-page
invariant-loop-page g l = record {
  within : l.from ≤ length l.self.rooms;
  passed : (p : ℕ) → p < l.from → Takes l.self.rooms l.bytes p → IsUnlocked l.self.locks p → ⊥;
}

abbrev pub decreases-loop-page : goal.decreases-loop-page
decreases-loop-page g l = length l.self.rooms - l.from
