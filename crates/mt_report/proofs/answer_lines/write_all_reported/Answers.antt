use Rattle.std.proofs.Common.{arith, suc, ◌≡◌, ◌<◌, ◌++◌, length, take, drop, ap, sym, subst, ◌∙◌, add-one}
use Rattle.std.proofs.lemmas.Result.{err_from_is_err_and}
use Rattle.std.proofs.KnownBytes.{Appends-trans}
use Rattle.mt_script.specs.Answers.{AppendsFront}
use Rattle.mt_script.proofs.TextLemmas.{all_about, all_bytes, all_more, front_then}
use Rattle.mt_report.specs.AnswerLines.{reported_line}
use Rattle.mt_report.proofs.answer_lines.write_all_reported.Goals as goal

pub returns-in_err-write_reported-clause-front : goal.returns-in_err-write_reported-clause-front
returns-in_err-write_reported-clause-front g c =
    let p = err_from_is_err_and c.from_residual.result c.from_residual.ensures.1 in
    let all = c.args.answers.now in
    let i = c.loop-answer.answer-index in
    let one = c.answer-item.result in
    let lt : i < length all = omega arith in
    let front = front_then _ _ _ (all_bytes reported_line (take i all)) (reported_line one) (all_bytes reported_line (drop (suc i) all)) c.loop-answer.invariant c.in_err-write_reported.ensures.front in
    let whole : all_bytes reported_line all ≡ all_bytes reported_line (take i all) ++ (reported_line one ++ all_bytes reported_line (drop (suc i) all)) =
    all_about reported_line all i one lt ∙ ap (λ x. all_bytes reported_line (take i all) ++ (reported_line x ++ all_bytes reported_line (drop (suc i) all))) (sym c.answer-item.is) in
    rw p.1 (subst (AppendsFront _ _) (sym whole) front)

pub loop-answer-preserved : goal.loop-answer-preserved
loop-answer-preserved g c =
    let all = c.args.answers.now in
    let i = c.loop-answer.answer-index in
    let one = c.answer-item.result in
    let lt : i < length all = omega arith in
    let more : all_bytes reported_line (take (suc i) all) ≡ all_bytes reported_line (take i all) ++ reported_line one =
    all_more reported_line all i one lt ∙ ap (λ x. all_bytes reported_line (take i all) ++ reported_line x) (sym c.answer-item.is) in
    let both = Appends-trans _ _ _ (all_bytes reported_line (take i all)) _ c.loop-answer.invariant c.in_ok-write_reported.ensures.all in
    rw (add-one, more) both
