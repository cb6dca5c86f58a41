use Rattle.std.proofs.Common.{◌≡◌, ◌≤◌}
use Rattle.mt_slots.specs.Page.{live_slots}
use Rattle.mt_slots.proofs.contents.live.Given as goal

abbrev pub invariant-loop-i : goal.invariant-loop-i
invariant-loop-i l = (l.live ≡ live_slots l.page l.i) × (l.live ≤ l.i)
