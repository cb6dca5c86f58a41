use Rattle.mt_format.proofs.schema.Schema.counters.Goals as goal

pub returns-clause-counters : goal.returns-clause-counters
returns-clause-counters c = c.counters.ensures.counters
