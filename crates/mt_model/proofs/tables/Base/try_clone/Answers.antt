use Rattle.std.proofs.Common.{rules}
use Rattle.mt_model.proofs.tables.Base.try_clone.Goals as goal

pub returns : goal.returns
returns c = search rules
