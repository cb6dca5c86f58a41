use Rattle.std.proofs.Common.{take}
use Rattle.mt_replay.specs.Memory.{Makes}
use Rattle.mt_replay.proofs.undo_pass.make_all.Given as goal

abbrev pub invariant-loop-change : goal.invariant-loop-change
invariant-loop-change l = Makes (take l.change-index l.changes.list.items) l.fn.pages.items l.pages.items
