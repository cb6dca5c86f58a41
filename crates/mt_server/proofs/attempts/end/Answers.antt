use Rattle.mt_server.proofs.HearingLemmas.{fails_at_end}
use Rattle.mt_server.proofs.attempts.end.Goals as goal

pub returns-then-not-take_back : goal.returns-then-not-take_back
returns-then-not-take_back g c =
    fails_at_end c.args.pass.now c.take_back.new.pass _ _ c.fail.result c.take_back.ensures c.fail.ensures.lives c.fail.ensures.stops
