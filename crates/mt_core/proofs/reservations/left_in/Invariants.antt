use Rattle.std.proofs.Common.{◌≡◌, take}
use Rattle.std.specs.List.{sum_by}
use Rattle.mt_op.specs.World.{left_of}
use Rattle.mt_core.proofs.reservations.left_in.Given as goal

abbrev pub invariant-loop-one : goal.invariant-loop-one
invariant-loop-one l = l.left ≡ sum_by left_of (take l.one-index l.running)
