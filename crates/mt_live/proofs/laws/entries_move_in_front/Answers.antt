use Rattle.mt_live.proofs.Events.{commits}
use Rattle.mt_live.proofs.Schedule.{moved_in_turn}
use Rattle.mt_live.proofs.laws.entries_move_in_front.Goals as goal

pub returns-clause-set : goal.returns-clause-set
returns-clause-set c = λ held b es locks sound p. commits held locks b es sound p

pub returns-clause-transactions : goal.returns-clause-transactions
returns-clause-transactions c = moved_in_turn
