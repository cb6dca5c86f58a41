use Rattle.std.proofs.Common.{subst}
use Rattle.mt_steps.specs.Logged.{HasSmallReply}
use Rattle.mt_op.proofs.page_writes.outcome.Goals as goal

pub returns-clause-operation : goal.returns-clause-operation
returns-clause-operation c = λ relations counters few some within small. c.in_ok-done.ensures.operation relations counters few some within (subst HasSmallReply c.in_ok-copy.ensures small)
