use Rattle.std.proofs.Common.{arith, suc, ◌≡◌, ◌<◌, ◌++◌, length, take, drop, ap, sym, subst, ◌∙◌, add-one}
use Rattle.std.proofs.lemmas.Result.{err_from_is_err_and}
use Rattle.std.proofs.KnownBytes.{Appends-trans}
use Rattle.mt_script.specs.Answers.{AppendsFront}
use Rattle.mt_script.proofs.TextLemmas.{all_about, all_bytes, all_more, front_then}
use Rattle.mt_explain.specs.Listings.{row_line}
use Rattle.mt_explain.proofs.base_lines.write_rows.Goals as goal

pub returns-in_err-write_row-clause-front : goal.returns-in_err-write_row-clause-front
returns-in_err-write_row-clause-front g c =
    let p = err_from_is_err_and c.from_residual.result c.from_residual.ensures.1 in
    let all = c.args.rows.now in
    let i = c.loop-row.row-index in
    let one = c.row-item.result in
    let lt : i < length all = omega arith in
    let front = front_then _ _ _ (all_bytes row_line (take i all)) (row_line one) (all_bytes row_line (drop (suc i) all)) c.loop-row.invariant c.in_err-write_row.ensures.front in
    let whole : all_bytes row_line all ≡ all_bytes row_line (take i all) ++ (row_line one ++ all_bytes row_line (drop (suc i) all)) =
    all_about row_line all i one lt ∙ ap (λ x. all_bytes row_line (take i all) ++ (row_line x ++ all_bytes row_line (drop (suc i) all))) (sym c.row-item.is) in
    rw p.1 (subst (AppendsFront _ _) (sym whole) front)

pub loop-row-preserved : goal.loop-row-preserved
loop-row-preserved g c =
    let all = c.args.rows.now in
    let i = c.loop-row.row-index in
    let one = c.row-item.result in
    let lt : i < length all = omega arith in
    let more : all_bytes row_line (take (suc i) all) ≡ all_bytes row_line (take i all) ++ row_line one =
    all_more row_line all i one lt ∙ ap (λ x. all_bytes row_line (take i all) ++ row_line x) (sym c.row-item.is) in
    let both = Appends-trans _ _ _ (all_bytes row_line (take i all)) _ c.loop-row.invariant c.in_ok-write_row.ensures.all in
    rw (add-one, more) both
