use Rattle.std.proofs.Common.{arith}
use Rattle.std.proofs.lemmas.Int.{ints}
use Rattle.mt_report.proofs.EventLemmas.{no_session}
use Rattle.mt_report.proofs.schedules.begin_of.Goals as goal

pub returns-in-Err : goal.returns-in-Err
returns-in-Err c = no_session c.args.number (omega arith) (λ h. c.in-Err.ensures (omega (arith, ints, h)))
