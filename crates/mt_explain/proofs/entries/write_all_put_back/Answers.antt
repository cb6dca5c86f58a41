use Rattle.std.proofs.Common.{arith, suc, ◌≡◌, ◌<◌, ◌++◌, length, take, drop, ap, sym, subst, ◌∙◌, add-one}
use Rattle.std.proofs.lemmas.Result.{err_from_is_err_and}
use Rattle.std.proofs.KnownBytes.{Appends-trans}
use Rattle.mt_script.specs.Answers.{AppendsFront}
use Rattle.mt_script.proofs.TextLemmas.{all_about, all_bytes, all_more, front_then}
use Rattle.mt_explain.specs.Explanations.{put_back_line}
use Rattle.mt_explain.proofs.entries.write_all_put_back.Goals as goal

pub returns-in_err-write_put_back-clause-front : goal.returns-in_err-write_put_back-clause-front
returns-in_err-write_put_back-clause-front g c =
    let p = err_from_is_err_and c.from_residual.result c.from_residual.ensures.1 in
    let all = c.args.operations.now in
    let i = c.loop-operation.operation-index in
    let one = c.operation-item.result in
    let lt : i < length all = omega arith in
    let front = front_then _ _ _ (all_bytes put_back_line (take i all)) (put_back_line one) (all_bytes put_back_line (drop (suc i) all)) c.loop-operation.invariant c.in_err-write_put_back.ensures.front in
    let whole : all_bytes put_back_line all ≡ all_bytes put_back_line (take i all) ++ (put_back_line one ++ all_bytes put_back_line (drop (suc i) all)) =
    all_about put_back_line all i one lt ∙ ap (λ x. all_bytes put_back_line (take i all) ++ (put_back_line x ++ all_bytes put_back_line (drop (suc i) all))) (sym c.operation-item.is) in
    rw p.1 (subst (AppendsFront _ _) (sym whole) front)

pub loop-operation-preserved : goal.loop-operation-preserved
loop-operation-preserved g c =
    let all = c.args.operations.now in
    let i = c.loop-operation.operation-index in
    let one = c.operation-item.result in
    let lt : i < length all = omega arith in
    let more : all_bytes put_back_line (take (suc i) all) ≡ all_bytes put_back_line (take i all) ++ put_back_line one =
    all_more put_back_line all i one lt ∙ ap (λ x. all_bytes put_back_line (take i all) ++ put_back_line x) (sym c.operation-item.is) in
    let both = Appends-trans _ _ _ (all_bytes put_back_line (take i all)) _ c.loop-operation.invariant c.in_ok-write_put_back.ensures.all in
    rw (add-one, more) both
