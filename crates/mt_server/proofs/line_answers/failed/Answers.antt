use Rattle.mt_server.proofs.HearingLemmas.{stops_behind}
use Rattle.mt_server.proofs.line_answers.failed.Goals as goal

pub returns-clause-stops : goal.returns-clause-stops
returns-clause-stops g c =
    stops_behind c.args.pass.now c.take_back.new.pass _ _ c.fail.result c.take_back.ensures c.fail.ensures.stops
