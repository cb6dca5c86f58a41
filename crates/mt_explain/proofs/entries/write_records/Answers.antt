use Rattle.std.proofs.Common.{arith, suc, ◌≡◌, ◌<◌, ◌++◌, length, take, drop, ap, sym, subst, ◌∙◌, add-one}
use Rattle.std.proofs.lemmas.Result.{err_from_is_err_and}
use Rattle.std.proofs.KnownBytes.{Appends-trans}
use Rattle.mt_script.specs.Answers.{AppendsFront}
use Rattle.mt_script.proofs.TextLemmas.{all_about, all_bytes, all_more, front_then}
use Rattle.mt_explain.specs.Explanations.{record_line}
use Rattle.mt_explain.proofs.entries.write_records.Goals as goal

pub returns-in_err-write_record-clause-front : goal.returns-in_err-write_record-clause-front
returns-in_err-write_record-clause-front g c =
    let p = err_from_is_err_and c.from_residual.result c.from_residual.ensures.1 in
    let line = record_line c.args.number c.args.place in
    let all = c.args.records.now in
    let i = c.loop-entry.entry-index in
    let one = c.entry-item.result in
    let lt : i < length all = omega arith in
    let front = front_then _ _ _ (all_bytes line (take i all)) (line one) (all_bytes line (drop (suc i) all)) c.loop-entry.invariant c.in_err-write_record.ensures.front in
    let whole : all_bytes line all ≡ all_bytes line (take i all) ++ (line one ++ all_bytes line (drop (suc i) all)) =
    all_about line all i one lt ∙ ap (λ x. all_bytes line (take i all) ++ (line x ++ all_bytes line (drop (suc i) all))) (sym c.entry-item.is) in
    rw p.1 (subst (AppendsFront _ _) (sym whole) front)

pub loop-entry-preserved : goal.loop-entry-preserved
loop-entry-preserved g c =
    let line = record_line c.args.number c.args.place in
    let all = c.args.records.now in
    let i = c.loop-entry.entry-index in
    let one = c.entry-item.result in
    let lt : i < length all = omega arith in
    let more : all_bytes line (take (suc i) all) ≡ all_bytes line (take i all) ++ line one =
    all_more line all i one lt ∙ ap (λ x. all_bytes line (take i all) ++ line x) (sym c.entry-item.is) in
    let both = Appends-trans _ _ _ (all_bytes line (take i all)) _ c.loop-entry.invariant c.in_ok-write_record.ensures.all in
    rw (add-one, more) both
