use Rattle.std.proofs.Common.{refl}
use Rattle.mt_alone.proofs.TranscriptLemmas.{reply_reported}
use Rattle.mt_server.proofs.line_answers.replied.Goals as goal

pub returns-in-Ok-clause-reports : goal.returns-in-Ok-clause-reports
returns-in-Ok-clause-reports g c = λ calls op reply is.
    (refl, refl, reply_reported calls op reply c.args.txn.done.calls _ _ _ _ is c.calls-calls.ensures c.in-Ok.ensures.all)
