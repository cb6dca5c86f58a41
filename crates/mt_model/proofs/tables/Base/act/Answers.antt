use Rattle.std.proofs.Common.{rules}
use Rattle.mt_model.proofs.tables.Base.act.Goals as goal

pub returns-in-Delete-clause-base : goal.returns-in-Delete-clause-base
returns-in-Delete-clause-base c = search rules
