use Rattle.std.proofs.Common.{rules}
use Rattle.mt_frame.proofs.records.Record.txn.Goals as goal

pub returns-in-AbortEnd : goal.returns-in-AbortEnd
returns-in-AbortEnd c = search rules
