use Rattle.std.proofs.Common.{rules}
use Rattle.mt_model.proofs.operations.Reply.equals.Goals as goal

pub returns-in-Value-Value : goal.returns-in-Value-Value
returns-in-Value-Value c = search rules
