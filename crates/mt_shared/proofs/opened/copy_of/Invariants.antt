use Rattle.std.proofs.Common.{◌≡◌, take}
use Rattle.mt_shared.proofs.opened.copy_of.Given as goal

abbrev pub invariant-loop-done : goal.invariant-loop-done
invariant-loop-done l = l.copy.items ≡ take l.done-index l.book
