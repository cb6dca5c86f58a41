use Rattle.std.proofs.Common.{ℕ, refl, subst}
use Rattle.std.proofs.lemmas.Result.{IfErr-weaker}
use Rattle.std.specs.Io.KnownBytes.{Appends}
use Rattle.mt_script.specs.Answers.{AppendsFront}
use Rattle.mt_alone.specs.Sessions.{cut_script, session_line, unheard_line}
use Rattle.mt_alone.proofs.SessionLemmas.{beside_session, session_served_of}
use Rattle.mt_alone.proofs.sessions.run_session.Goals as goal

pub returns-in-Ok-clause-served : goal.returns-in-Ok-clause-served
returns-in-Ok-clause-served g c =
    let D = g.D.Device in
    let line = subst (λ (i : ℕ). Appends (g.W.Write.contents c.args.writer.now) (g.W.Write.contents c.write_session.new.writer) (session_line i)) c.from.ensures c.in-Ok.ensures.all in
    session_served_of c.args.kernel c.args.stop c.args.session _ _ _ _ c.run_script.result line c.run_script.ensures.schema c.run_script.ensures.restarts c.run_script.ensures.ran

pub returns-in-Ok-clause-cut : goal.returns-in-Ok-clause-cut
returns-in-Ok-clause-cut g c =
    let D = g.D.Device in
    let line = subst (λ (i : ℕ). Appends (g.W.Write.contents c.args.writer.now) (g.W.Write.contents c.write_session.new.writer) (session_line i)) c.from.ensures c.in-Ok.ensures.all in
    IfErr-weaker c.run_script.result _ _
    (λ left cut p beside restarts. cut_script _ left line (cut _ refl (beside_session p c.args.kernel c.args.session beside) restarts))
    c.run_script.ensures.cut

pub returns-in-Err-clause-cut : goal.returns-in-Err-clause-cut
returns-in-Err-clause-cut g c = λ p beside restarts.
    unheard_line c.args.kernel (subst (λ (i : ℕ). AppendsFront (g.W.Write.contents c.args.writer.now) (g.W.Write.contents c.write_session.new.writer) (session_line i)) c.from.ensures c.in-Err.ensures.front) refl
