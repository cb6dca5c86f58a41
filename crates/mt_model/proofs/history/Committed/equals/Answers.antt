use Rattle.std.proofs.Common.{rules}
use Rattle.mt_model.proofs.history.Committed.equals.Goals as goal

pub returns-then-self-other : goal.returns-then-self-other
returns-then-self-other c = search rules
