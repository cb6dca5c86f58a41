use Rattle.std.proofs.Common.{[], ◌++◌, ◌∙◌, ap, append-nil, subst}
use Rattle.std.proofs.lemmas.Result.{err_from_is_err_and, on_err_weaker}
use Rattle.mt_alone.specs.Sessions.{session_line}
use Rattle.mt_script.specs.Answers.{AppendsFront}
use Rattle.mt_script.proofs.TextLemmas.{front_then, front_whole}
use Rattle.mt_cli.proofs.at_once.write_transcript.Goals as goal

pub returns-in_err-write_session-clause-front : goal.returns-in_err-write_session-clause-front
returns-in_err-write_session-clause-front g c =
    let p = err_from_is_err_and c.from_residual.result c.from_residual.ensures.1 in
    rw p.1 (front_whole _ _ (session_line c.args.session) c.args.transcript.now c.in_err-write_session.ensures.front)

pub returns-clause-front : goal.returns-clause-front
returns-clause-front g c =
    let line = session_line c.args.session in
    on_err_weaker c.put.result (λ front.
    subst (AppendsFront _ _) (ap (λ t. line ++ t) (append-nil c.as_bytes.result.now ∙ c.as_bytes.ensures)) (front_then _ _ _ line c.as_bytes.result.now [] c.in_ok-write_session.ensures.all front)) c.put.ensures.front
