use Rattle.std.proofs.lemmas.Result.{IfErr-weaker, IfOk-weaker}
use Rattle.mt_cli.proofs.ReadLemmas.{by_reader}
use Rattle.mt_cli.proofs.named_inputs.file_lines.Goals as goal

pub returns-in-Ok-clause-lines : goal.returns-in-Ok-clause-lines
returns-in-Ok-clause-lines g c = IfOk-weaker c.input_lines.result _ _ (λ lines are. by_reader _ _ _ c.in-Ok.ensures.held are) c.input_lines.ensures.lines

pub returns-in-Ok-clause-unread : goal.returns-in-Ok-clause-unread
returns-in-Ok-clause-unread g c = IfErr-weaker c.input_lines.result _ _ (λ why are. by_reader _ _ _ c.in-Ok.ensures.held are) c.input_lines.ensures.unread
