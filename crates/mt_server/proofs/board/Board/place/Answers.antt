use Rattle.std.proofs.Common.{arith, false, refl, sym, ◌∙◌}
use Rattle.std.proofs.lemmas.List.{get_or_default}
use Rattle.mt_server.proofs.CrewLemmas.{placed}
use Rattle.mt_server.proofs.board.Board.place.Goals as goal

pub returns : goal.returns
returns c = λ done scripts book booked count outcome board.
    let free = get_or_default c.args.self.now.filled.items c.args.outcome.at false c.index.result.now (omega (arith, outcome.within, board.filled)) ∙ sym c.index.ensures ∙ c.if-index.false in
    placed scripts c.args.self.now _ book c.args.outcome booked count free refl refl refl outcome board
