use Rattle.std.proofs.Common.{[], sym, append-nil}
use Rattle.mt_script.proofs.TextLemmas.{appends_kept}
use Rattle.mt_alone.proofs.alone.report.Goals as goal

pub returns-in-Ok-clause-all : goal.returns-in-Ok-clause-all
returns-in-Ok-clause-all g c = appends_kept _ _ _ _ c.in_ok-write_answer.ensures.all c.flush.ensures.bytes

pub returns-in-Err-clause-front : goal.returns-in-Err-clause-front
returns-in-Err-clause-front g c = (_, [], sym (append-nil _), appends_kept _ _ _ _ c.in_ok-write_answer.ensures.all c.flush.ensures.bytes)
