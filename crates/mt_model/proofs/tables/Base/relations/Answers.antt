use Rattle.std.proofs.Common.{rules}
use Rattle.mt_model.proofs.tables.Base.relations.Goals as goal

pub returns : goal.returns
returns c = search rules
