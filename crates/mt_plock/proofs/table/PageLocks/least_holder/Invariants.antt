use Rattle.std.proofs.Common.{take}
use Rattle.mt_plock.proofs.Finding.{Finds}
use Rattle.mt_plock.proofs.table.PageLocks.least_holder.Given as goal

abbrev pub invariant-loop-held : goal.invariant-loop-held
invariant-loop-held l = Finds l.asked (take l.held-index l.held-items) l.least
