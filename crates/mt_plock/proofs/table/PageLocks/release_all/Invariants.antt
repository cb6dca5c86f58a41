use Rattle.mt_plock.proofs.Removing.{IsGivingBack}
use Rattle.mt_plock.proofs.table.PageLocks.release_all.Given as goal

abbrev pub invariant-loop-guard : goal.invariant-loop-guard
invariant-loop-guard l = IsGivingBack l.guards.items l.initial.guards.items l.initial.self l.self

abbrev pub decreases-loop-guard : goal.decreases-loop-guard
decreases-loop-guard l = goal.left-loop-guard l
