use Rattle.std.proofs.Common.{arith, suc, ◌<◌, ◌≡◌, ◌+◌, ◌++◌, ◌∙◌, ap, length, take, drop, sym, subst, add-one}
use Rattle.std.proofs.lemmas.Result.{err_from_is_err_and}
use Rattle.std.proofs.KnownBytes.{Appends-trans}
use Rattle.mt_script.specs.Answers.{AppendsFront}
use Rattle.mt_script.proofs.TextLemmas.{front_whole}
use Rattle.mt_explain.specs.Listings.{numbered}
use Rattle.mt_cli.specs.Serves.{session_text, texts_in_order}
use Rattle.mt_explain.proofs.ListingLemmas.{front_next, numbered_about, numbered_more}
use Rattle.mt_cli.proofs.at_once.write_sessions.Goals as goal

pub returns-in_err-write_transcript-clause-front : goal.returns-in_err-write_transcript-clause-front
returns-in_err-write_transcript-clause-front g c =
    let p = err_from_is_err_and c.from_residual.result c.from_residual.ensures.1 in
    let all = c.args.transcripts.now in
    let i = c.loop-place.place in
    let one = c.index-transcripts-place.result in
    let lt : i < length all = omega arith in
    let is : i + 1 ≡ 1 + i = omega arith in
    let front = front_next _ _ _ (texts_in_order (take i all)) (session_text (i + 1) one) c.loop-place.invariant c.in_err-write_transcript.ensures.front in
    let whole = numbered_about session_text 1 all i (i + 1) one lt is
    ∙ ap (λ t. (texts_in_order (take i all) ++ session_text (i + 1) t) ++ numbered session_text (1 + (i + 1)) (drop (suc i) all)) (sym c.index-transcripts-place.is) in
    rw p.1 (subst (AppendsFront _ _) (sym whole) (front_whole _ _ _ (numbered session_text (1 + (i + 1)) (drop (suc i) all)) front))

pub loop-place-preserved : goal.loop-place-preserved
loop-place-preserved g c =
    let all = c.args.transcripts.now in
    let i = c.loop-place.place in
    let one = c.index-transcripts-place.result in
    let lt : i < length all = omega arith in
    let is : i + 1 ≡ 1 + i = omega arith in
    let more : texts_in_order (take (suc i) all) ≡ texts_in_order (take i all) ++ session_text (i + 1) one =
    numbered_more session_text 1 all i (i + 1) one lt is ∙ ap (λ t. texts_in_order (take i all) ++ session_text (i + 1) t) (sym c.index-transcripts-place.is) in
    let both = Appends-trans _ _ _ (texts_in_order (take i all)) (session_text (i + 1) one) c.loop-place.invariant c.in_ok-write_transcript.ensures.all in
    rw (add-one, more) both
