use Rattle.mt_rows.proofs.Relations.{relations_are}
use Rattle.mt_rows.proofs.laws.relations_are_one.Goals as goal

pub returns : goal.returns
returns c = relations_are
