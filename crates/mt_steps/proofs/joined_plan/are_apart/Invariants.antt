use Rattle.std.proofs.Common.{◌≡◌, ℕ, ◌<◌, false, get_or}
use Rattle.mt_space.specs.declared.changes.PageChange.{PageChange}
use Rattle.mt_overlay.specs.Overlays.{names_page}
use Rattle.mt_steps.proofs.joined_plan.are_apart.Given as goal

abbrev pub invariant-loop-change : goal.invariant-loop-change
invariant-loop-change l = (k : ℕ) (d : PageChange) → k < l.change-index → names_page l.first.list.items (get_or l.second.list.items k d).page ≡ false
