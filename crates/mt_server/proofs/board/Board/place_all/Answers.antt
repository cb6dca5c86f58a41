use Rattle.std.proofs.Common.{◌≡◌, ◌+◌, ℕ, length, arith, refl, subst}
use Rattle.mt_server.specs.Crews.{IsBoard}
use Rattle.mt_server.proofs.CrewLemmas.{last_reported, none_left}
use Rattle.mt_server.proofs.board.Board.place_all.Goals as goal

pub outcome-init : goal.outcome-init
outcome-init c = λ scripts book more count outcome board. (more, count, outcome, board, refl)

pub outcome-preserved-else-not-place : goal.outcome-preserved-else-not-place
outcome-preserved-else-not-place c = λ scripts book more count outcome board.
    let (left, there, those, now, both) = c.outcome.invariant scripts book more count outcome board in
    let last = last_reported scripts book c.outcome.outcome.items c.pop.new.self.items left c.in-Some.last c.pop.result c.pop.ensures.items c.in-Some.is those in
    (last.fewer, there + length last.booked, last.outcome, c.if-not-place.ensures refl scripts book last.booked there last.this now, omega (arith, last.counted, both))

pub returns : goal.returns
returns c = λ done scripts book more count outcome board.
    let (left, there, those, now, both) = c.outcome.invariant scripts book more count outcome board in
    subst (IsBoard scripts c.outcome.self book) (omega (arith, both, none_left scripts book c.outcome.outcome.items left (omega arith) those)) now
