use Rattle.mt_index.specs.Checks.{holder_in, ArePassed}
use Rattle.mt_space.specs.PageLists.{bytes_of}
use Rattle.mt_index.proofs.entry_rules.pass.Given as goal

abbrev pub invariant-loop-i : goal.invariant-loop-i
invariant-loop-i l = ArePassed (bytes_of l.pages) l.bucket l.at l.i (holder_in l.holders)
