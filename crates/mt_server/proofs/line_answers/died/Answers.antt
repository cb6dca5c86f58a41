use Rattle.std.proofs.lemmas.Result.{err_from_is_err_and}
use Rattle.std.proofs.Common.{◌++◌, ◌∷◌, [], ap, ◌∙◌}
use Rattle.mt_script.specs.Answers.{transcript_text}
use Rattle.mt_script.specs.declared.answers.Answer.TheVariants.{Refused}
use Rattle.mt_server.proofs.HearingLemmas.{stops_line, reported_dead, unheard_line}
use Rattle.mt_server.proofs.line_answers.died.Goals as goal

pub returns-then-not-take_back-clause-turns : goal.returns-then-not-take_back-clause-turns
returns-then-not-take_back-clause-turns g c = λ op.
    stops_line g.J.Naming.base c.args.txn c.args.pass.now c.take_back.new.pass _ _ _ c.fail.result c.take_back.ensures c.fail.ensures.stops

pub returns-clause-turns : goal.returns-clause-turns
returns-clause-turns g c = λ op.
    reported_dead g.J.Naming.base c.args.txn c.args.pass.now c.requires.own op c.requires.dies.0 _ _ c.take_back.new.pass c.take_back.ensures
    (c.in_ok-refuse.ensures.ok ∙ ap (λ why. c.args.out.now.items ++ transcript_text (Refused why ∷ [])) c.requires.dies.1)

pub returns-in_err-refuse-clause-turns : goal.returns-in_err-refuse-clause-turns
returns-in_err-refuse-clause-turns g c = λ op.
    let p = err_from_is_err_and c.from_residual.result c.from_residual.ensures.1 in
    rw (p.1, p.2) (unheard_line g.J.Naming.base c.args.txn c.args.pass.now c.take_back.new.pass _ _ _ c.in_err-refuse.field-0.0 c.in_err-refuse.ensures.err c.take_back.ensures)
