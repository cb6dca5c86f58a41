use Rattle.mt_slock.proofs.Tables.{granted_once}
use Rattle.mt_slock.proofs.Asking.{taken_out}
use Rattle.mt_slock.proofs.laws.taking_out_gives_back.Goals as goal

pub returns-clause-back : goal.returns-clause-back
returns-clause-back c = taken_out

pub returns-clause-once : goal.returns-clause-once
returns-clause-once c = granted_once
