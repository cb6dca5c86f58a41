use Rattle.mt_index.proofs.Witness.{index_stays, form_stays}
use Rattle.mt_index.proofs.laws.other_changes_keep_the_map.Goals as goal

pub returns-clause-map : goal.returns-clause-map
returns-clause-map c = index_stays

pub returns-clause-formed : goal.returns-clause-formed
returns-clause-formed c = form_stays
