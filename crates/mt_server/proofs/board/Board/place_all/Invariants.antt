use Rattle.std.proofs.Common.{◌≡◌, ◌+◌, ℕ, List, vec_len}
use Rattle.mt_model.specs.declared.history.Committed.{Committed}
use Rattle.mt_script.specs.declared.lines.Line.{Line}
use Rattle.mt_server.specs.Crews.{AreReportedOf, IsBoard}
use Rattle.mt_server.proofs.board.Board.place_all.Given as goal

-- so many commits are reported by those that are left, and so many by the board
abbrev pub invariant-outcome : goal.invariant-outcome
invariant-outcome l = (scripts : List (List Line)) (book : List Committed) (more count : ℕ) → AreReportedOf scripts book l.initial.outcome.items more → IsBoard scripts l.initial.self book count
    → (left : ℕ) × (there : ℕ) × AreReportedOf scripts book l.outcome.items left × IsBoard scripts l.self book there × (there + left ≡ count + more)

abbrev pub decreases-outcome : goal.decreases-outcome
decreases-outcome l = vec_len l.outcome
