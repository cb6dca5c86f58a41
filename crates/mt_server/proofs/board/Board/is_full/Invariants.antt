use Rattle.std.proofs.Common.{◌≡◌, ◌<◌, ℕ, false, true, get_or}
use Rattle.mt_server.proofs.board.Board.is_full.Given as goal

abbrev pub invariant-loop-is_there : goal.invariant-loop-is_there
invariant-loop-is_there l = (i : ℕ) → i < l.is_there-index → get_or l.self.filled.items i false ≡ true
