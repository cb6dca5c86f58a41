use Rattle.mt_bucket.proofs.entry_changes.push.Goals as goal

pub returns-clause-kept : goal.returns-clause-kept
returns-clause-kept c = λ r p in_schema some place. c.push_cell.ensures.kept r p (c.cell_of.ensures.cell r p in_schema some place)
