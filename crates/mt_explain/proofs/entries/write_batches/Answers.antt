use Rattle.std.proofs.Common.{arith, suc, ◌≡◌, ◌<◌, ◌+◌, ◌++◌, length, take, drop, ap, sym, subst, ◌∙◌, add-one}
use Rattle.std.proofs.lemmas.Result.{err_from_is_err_and}
use Rattle.std.proofs.KnownBytes.{Appends-trans}
use Rattle.mt_script.specs.Answers.{AppendsFront}
use Rattle.mt_script.proofs.TextLemmas.{front_whole}
use Rattle.mt_explain.proofs.ListingLemmas.{front_next, numbered_about, numbered_more}
use Rattle.mt_explain.specs.Explanations.{batch_lines}
use Rattle.mt_explain.specs.Listings.{numbered}
use Rattle.mt_explain.proofs.entries.write_batches.Goals as goal

pub returns-in_err-write_records-clause-front : goal.returns-in_err-write_records-clause-front
returns-in_err-write_records-clause-front g c =
    let p = err_from_is_err_and c.from_residual.result c.from_residual.ensures.1 in
    let all = c.args.batches.now in
    let i = c.loop-index.index in
    let one = c.index-batches-index.result in
    let lt : i < length all = omega arith in
    let is : i + 1 ≡ 1 + i = omega arith in
    let text = rw c.as_slice.ensures.value at c.in_err-write_records.ensures.front in
    let front = front_next _ _ _ (numbered batch_lines 1 (take i all)) (batch_lines (i + 1) one) c.loop-index.invariant text in
    let behind = numbered batch_lines (1 + (i + 1)) (drop (suc i) all) in
    let whole = numbered_about batch_lines 1 all i (i + 1) one lt is ∙ ap (λ b. (numbered batch_lines 1 (take i all) ++ batch_lines (i + 1) b) ++ behind) (sym c.index-batches-index.is) in
    rw p.1 (subst (AppendsFront _ _) (sym whole) (front_whole _ _ _ behind front))

pub loop-index-preserved : goal.loop-index-preserved
loop-index-preserved g c =
    let all = c.args.batches.now in
    let i = c.loop-index.index in
    let one = c.index-batches-index.result in
    let lt : i < length all = omega arith in
    let is : i + 1 ≡ 1 + i = omega arith in
    let text = rw c.as_slice.ensures.value at c.in_ok-write_records.ensures.all in
    let more = numbered_more batch_lines 1 all i (i + 1) one lt is ∙ ap (λ b. numbered batch_lines 1 (take i all) ++ batch_lines (i + 1) b) (sym c.index-batches-index.is) in
    rw (add-one, more) (Appends-trans _ _ _ (numbered batch_lines 1 (take i all)) (batch_lines (i + 1) one) c.loop-index.invariant text)
