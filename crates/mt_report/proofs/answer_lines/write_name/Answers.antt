use Rattle.std.proofs.Common.{rules, [], ◌∷◌, ◌≡◌, ap, append-nil, subst, ◌∙◌}
use Rattle.std.specs.Fmt.{decimal}
use Rattle.std.proofs.lemmas.Result.{err_from_is_err_and, on_err_weaker}
use Rattle.mt_script.specs.Answers.{AppendsFront}
use Rattle.mt_script.proofs.TextLemmas.{front_then, front_whole}
use Rattle.mt_report.proofs.answer_lines.write_name.Goals as goal

pub returns-in_err-put-clause-front : goal.returns-in_err-put-clause-front
returns-in_err-put-clause-front g c =
    let p = err_from_is_err_and c.from_residual.result c.from_residual.ensures.1 in
    rw p.1 (front_whole _ _ (32 ∷ []) (decimal c.args.name) c.in_err-put.ensures.front)

pub returns-clause-front : goal.returns-clause-front
returns-clause-front g c =
    let digits : c.as_bytes.result.now ≡ decimal c.args.name = search rules in
    on_err_weaker c.put-2.result (λ front.
    subst (AppendsFront _ _) (ap (λ t. 32 ∷ t) (append-nil _) ∙ ap (λ t. 32 ∷ t) digits) (front_then _ _ _ (32 ∷ []) c.as_bytes.result.now [] c.in_ok-put.ensures.all front)) c.put-2.ensures.front
