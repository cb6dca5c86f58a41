use Rattle.mt_index.specs.Pages.{AreZero}
use Rattle.mt_index.proofs.directory_rules.are_zero.Given as goal

abbrev pub invariant-loop-i : goal.invariant-loop-i
invariant-loop-i l = AreZero l.page l.fn.from l.i
