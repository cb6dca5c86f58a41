use Rattle.mt_layer_cases.proofs.index.records_of.Goals as goal

pub plan_names-requires-clause-so_far : goal.plan_names-requires-clause-so_far
plan_names-requires-clause-so_far c = c.new-gathering.ensures _ _ _
