use Rattle.std.proofs.Common.{[], ◌∷◌, ◌++◌, codes, map}
use Rattle.std.specs.List.{concat}
use Rattle.std.proofs.lemmas.Result.{err_from_is_err_and, on_err_weaker}
use Rattle.std.proofs.KnownBytes.{Appends-trans}
use Rattle.mt_script.proofs.TextLemmas.{front_then, front_whole}
use Rattle.mt_report.specs.AnswerLines.{name_text}
use Rattle.mt_report.proofs.answer_lines.write_durable.Goals as goal

pub returns-in_err-put-clause-front : goal.returns-in_err-put-clause-front
returns-in_err-put-clause-front g c =
    let p = err_from_is_err_and c.from_residual.result c.from_residual.ensures.1 in
    rw p.1 (front_whole _ _ (codes "durable") (concat (map name_text c.args.names.now) ++ 10 ∷ []) c.in_err-put.ensures.front)

pub returns-in_err-write_names-clause-front : goal.returns-in_err-write_names-clause-front
returns-in_err-write_names-clause-front g c =
    let p = err_from_is_err_and c.from_residual-in_err-write_names.result c.from_residual-in_err-write_names.ensures.1 in
    rw p.1 (front_then _ _ _ (codes "durable") (concat (map name_text c.args.names.now)) (10 ∷ []) c.in_ok-put.ensures.all c.in_err-write_names.ensures.front)

pub returns-clause-front : goal.returns-clause-front
returns-clause-front g c =
    let names = concat (map name_text c.args.names.now) in
    let before = Appends-trans _ _ _ (codes "durable") names c.in_ok-put.ensures.all c.in_ok-write_names.ensures.all in
    on_err_weaker c.put-2.result (λ front. front_then _ _ _ (codes "durable" ++ names) (10 ∷ []) [] before front) c.put-2.ensures.front
