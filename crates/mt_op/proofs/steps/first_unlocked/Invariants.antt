use Rattle.std.proofs.Common.{take}
use Rattle.std.specs.Prelude.{All, Contains}
use Rattle.mt_base.specs.declared.modes.Mode.TheVariants.{Write}
use Rattle.mt_plock.specs.Holding.{lock_of}
use Rattle.mt_space.specs.declared.changes.PageChange.{PageChange}
use Rattle.mt_op.proofs.steps.first_unlocked.Given as goal

abbrev pub invariant-loop-change : goal.invariant-loop-change
invariant-loop-change l = All (λ (c : PageChange). Contains l.guards (lock_of l.op c.page Write)) (take l.change-index l.changes.list.items)
