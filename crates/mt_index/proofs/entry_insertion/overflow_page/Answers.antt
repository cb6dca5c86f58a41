use Rattle.std.proofs.Common.{arith}
use Rattle.mt_index.proofs.entry_insertion.overflow_page.Goals as goal

pub returns-clause-bucket : goal.returns-clause-bucket
returns-clause-bucket c relations pages shallow relation some place =
    c.push.ensures.kept relations pages relation some place (c.empty.ensures.bucket relations pages shallow (omega (arith, place)))
