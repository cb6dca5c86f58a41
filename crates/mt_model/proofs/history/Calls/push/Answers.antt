use Rattle.std.proofs.Common.{rules}
use Rattle.mt_model.proofs.history.Calls.push.Goals as goal

pub returns-clause-ok : goal.returns-clause-ok
returns-clause-ok c = search rules
