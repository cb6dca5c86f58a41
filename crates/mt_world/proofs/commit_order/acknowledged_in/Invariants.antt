use Rattle.std.proofs.Common.{◌≡◌, take}
use Rattle.mt_world.specs.Reported.{acknowledged}
use Rattle.mt_world.proofs.commit_order.acknowledged_in.Given as goal

abbrev pub invariant-loop-answer : goal.invariant-loop-answer
invariant-loop-answer l = l.all.items ≡ acknowledged (take l.answer-index l.answers)
