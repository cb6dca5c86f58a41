use Rattle.std.proofs.Common.{arith, suc, ◌≡◌, ◌<◌, ◌++◌, length, take, drop, ap, sym, subst, ◌∙◌, add-one}
use Rattle.std.proofs.lemmas.Result.{err_from_is_err_and}
use Rattle.std.proofs.KnownBytes.{Appends-trans}
use Rattle.mt_script.specs.Answers.{AppendsFront}
use Rattle.mt_script.proofs.TextLemmas.{all_about, all_bytes, all_more, front_then}
use Rattle.mt_report.specs.AnswerLines.{name_text}
use Rattle.mt_report.proofs.answer_lines.write_names.Goals as goal

pub returns-in_err-write_name-clause-front : goal.returns-in_err-write_name-clause-front
returns-in_err-write_name-clause-front g c =
    let p = err_from_is_err_and c.from_residual.result c.from_residual.ensures.1 in
    let all = c.args.names.now in
    let i = c.loop-name.name-index in
    let one = c.name-item.result in
    let lt : i < length all = omega arith in
    let front = front_then _ _ _ (all_bytes name_text (take i all)) (name_text one) (all_bytes name_text (drop (suc i) all)) c.loop-name.invariant c.in_err-write_name.ensures.front in
    let whole : all_bytes name_text all ≡ all_bytes name_text (take i all) ++ (name_text one ++ all_bytes name_text (drop (suc i) all)) =
    all_about name_text all i one lt ∙ ap (λ x. all_bytes name_text (take i all) ++ (name_text x ++ all_bytes name_text (drop (suc i) all))) (sym c.name-item.is) in
    rw p.1 (subst (AppendsFront _ _) (sym whole) front)

pub loop-name-preserved : goal.loop-name-preserved
loop-name-preserved g c =
    let all = c.args.names.now in
    let i = c.loop-name.name-index in
    let one = c.name-item.result in
    let lt : i < length all = omega arith in
    let more : all_bytes name_text (take (suc i) all) ≡ all_bytes name_text (take i all) ++ name_text one =
    all_more name_text all i one lt ∙ ap (λ x. all_bytes name_text (take i all) ++ name_text x) (sym c.name-item.is) in
    let both = Appends-trans _ _ _ (all_bytes name_text (take i all)) _ c.loop-name.invariant c.in_ok-write_name.ensures.all in
    rw (add-one, more) both
