use Rattle.std.proofs.Common.{rules}
use Rattle.mt_model.proofs.history.Calls.into_vec.Goals as goal

pub returns : goal.returns
returns c = search rules
