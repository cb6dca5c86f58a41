use Rattle.std.proofs.Common.{arith, rules, suc, ◌≡◌, ℕ, List, [], ◌∷◌, ◌++◌, ◌<◌, length, get_or, take, drop, ap, sym, ◌∙◌, subst, add-one, append-nil}
use Rattle.std.proofs.lemmas.Result.{err_from_is_err_and}
use Rattle.std.proofs.KnownBytes.{Appends-trans}
use Rattle.std.specs.Io.KnownBytes.{Appends}
use Rattle.mt_rows.specs.declared.rows.Row.{Row}
use Rattle.mt_script.specs.Answers.{AppendsFront, pair_line, pair_lines}
use Rattle.mt_script.proofs.TextLemmas.{all_about, all_more, front_then}
use Rattle.mt_script.proofs.answers.write_pair_lines.Goals as goal

-- what is written of a row is its text
written : (row : Row) (key value : List ℕ) → key ≡ row.key → value ≡ row.value → 10 ∷ (key ++ (32 ∷ (value ++ []))) ≡ pair_line row
written row key value k v = ap (λ (t : List ℕ). 10 ∷ (key ++ (32 ∷ t))) (append-nil value ∙ v) ∙ ap (λ (t : List ℕ). 10 ∷ (t ++ (32 ∷ row.value))) k

pub returns-in_err-put_all-clause-front : goal.returns-in_err-put_all-clause-front
returns-in_err-put_all-clause-front g c =
    let p = err_from_is_err_and c.from_residual.result c.from_residual.ensures.1 in
    let rows = c.args.rows.now in
    let i = c.loop-row.row-index in
    let lt : i < length rows = omega arith in
    let row : Row = get_or rows i c.row-item.result in
    let own = written row c.as_slice.result.now c.as_slice-in-loop-row.result.now (search rules) (search rules) in
    let whole = all_about pair_line rows i c.row-item.result lt in
    let front = front_then _ _ _ (pair_lines (take i rows)) _ (pair_lines (drop (suc i) rows)) c.loop-row.invariant (subst (AppendsFront _ _) own c.in_err-put_all.ensures.front) in
    rw p.1 (subst (AppendsFront _ _) (sym whole) front)

pub loop-row-preserved : goal.loop-row-preserved
loop-row-preserved g c =
    let rows = c.args.rows.now in
    let i = c.loop-row.row-index in
    let lt : i < length rows = omega arith in
    let row : Row = get_or rows i c.row-item.result in
    let own = written row c.as_slice.result.now c.as_slice-in-loop-row.result.now (search rules) (search rules) in
    let more = all_more pair_line rows i c.row-item.result lt in
    let both = Appends-trans _ _ _ (pair_lines (take i rows)) _ c.loop-row.invariant (subst (Appends _ _) own c.in_ok-put_all.ensures.all) in
    rw (add-one, more) both
