use Rattle.std.proofs.Common.{rules}
use Rattle.mt_model.proofs.tables.Base.counters.Goals as goal

pub returns-clause-counters : goal.returns-clause-counters
returns-clause-counters c = search rules
