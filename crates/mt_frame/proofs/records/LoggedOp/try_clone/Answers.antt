use Rattle.std.proofs.Common.{rules}
use Rattle.mt_frame.proofs.records.LoggedOp.try_clone.Goals as goal

pub returns-in-Add : goal.returns-in-Add
returns-in-Add c = search rules
