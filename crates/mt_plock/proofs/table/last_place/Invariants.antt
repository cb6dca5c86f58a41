use Rattle.std.proofs.Common.{◌≢◌, ℕ, ◌<◌, ◌≤◌, length, get_or}
use Rattle.mt_plock.proofs.table.last_place.Given as goal

abbrev pub invariant-loop-i : goal.invariant-loop-i
invariant-loop-i l = (k : ℕ) → l.i ≤ k → k < length l.locks → get_or l.locks k l.lock ≢ l.lock
