use Rattle.std.proofs.Common.{rules}
use Rattle.mt_model.proofs.operations.Reply.try_clone.Goals as goal

pub returns-in-Exists : goal.returns-in-Exists
returns-in-Exists c = search rules
