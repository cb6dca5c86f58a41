use Rattle.mt_live.proofs.Wells.{nobody_numbered}
use Rattle.mt_live.proofs.live.Live.new.Goals as goal

pub returns-clause-numbered : goal.returns-clause-numbered
returns-clause-numbered c = nobody_numbered 0 _ c.new.ensures.items
