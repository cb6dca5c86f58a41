use Rattle.std.proofs.Common.{◌<◌, ℕ}
use Rattle.mt_index.specs.Checks.{IsPointer}
use Rattle.mt_space.specs.PageLists.{bytes_of}
use Rattle.mt_index.proofs.pointer_rules.are_pointers.Given as goal

abbrev pub invariant-loop-i : goal.invariant-loop-i
invariant-loop-i l = (k : ℕ) → k < l.i → IsPointer (bytes_of l.pages) k
