use Rattle.std.proofs.Common.{◌≤◌, ◌-◌, vec_len}
use Rattle.mt_server.proofs.board.empty_texts.Given as goal

abbrev pub invariant-texts : goal.invariant-texts
invariant-texts l = vec_len l.texts ≤ l.count

abbrev pub decreases-texts : goal.decreases-texts
decreases-texts l = l.count - vec_len l.texts
