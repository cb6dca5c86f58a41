use Rattle.std.proofs.Common.{length}
use Rattle.mt_frame.proofs.Rows.{Row}
use Rattle.mt_frame.proofs.decoders.row_of.Given as goal

abbrev pub invariant-loop-rest : goal.invariant-loop-rest
invariant-loop-rest l = Row l.bytes l.records.items l.rest

abbrev pub decreases-loop-rest : goal.decreases-loop-rest
decreases-loop-rest l = length l.rest
