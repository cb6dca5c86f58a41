use Rattle.std.proofs.Common.{rules}
use Rattle.mt_model.proofs.history.Calls.as_slice.Goals as goal

pub returns : goal.returns
returns c = search rules
