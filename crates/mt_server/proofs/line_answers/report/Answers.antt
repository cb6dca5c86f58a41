use Rattle.std.proofs.Common.{◌++◌, ap, sym, ◌∙◌}
use Rattle.mt_alone.proofs.TranscriptLemmas.{text_one}
use Rattle.mt_server.proofs.line_answers.report.Goals as goal

pub returns-in-Ok-clause-ok : goal.returns-in-Ok-clause-ok
returns-in-Ok-clause-ok c = c.in-Ok.ensures.all ∙ ap (λ t. c.args.out.now.items ++ t) (sym (text_one c.args.answer.now))
