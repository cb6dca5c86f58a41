use Rattle.std.proofs.Common.{arith, suc, ◌<◌, length, take, drop, get_or, sym, subst, add-one}
use Rattle.std.proofs.lemmas.Result.{err_from_is_err_and}
use Rattle.std.proofs.KnownBytes.{Appends-trans}
use Rattle.mt_script.specs.Answers.{AppendsFront}
use Rattle.mt_script.proofs.TextLemmas.{all_about, all_bytes, all_more, front_then}
use Rattle.mt_explain.specs.Listings.{byte_text}
use Rattle.mt_explain.proofs.base_lines.write_bytes.Goals as goal

pub returns-in_err-write_byte-clause-front : goal.returns-in_err-write_byte-clause-front
returns-in_err-write_byte-clause-front g c =
    let p = err_from_is_err_and c.from_residual.result c.from_residual.ensures.1 in
    let all = c.args.bytes.now in
    let i = c.loop-byte.byte-index in
    let lt : i < length all = omega arith in
    let front = front_then _ _ _ (all_bytes byte_text (take i all)) (byte_text (get_or all i 0)) (all_bytes byte_text (drop (suc i) all)) c.loop-byte.invariant c.in_err-write_byte.ensures.front in
    rw p.1 (subst (AppendsFront _ _) (sym (all_about byte_text all i 0 lt)) front)

pub loop-byte-preserved : goal.loop-byte-preserved
loop-byte-preserved g c =
    let all = c.args.bytes.now in
    let i = c.loop-byte.byte-index in
    let lt : i < length all = omega arith in
    let both = Appends-trans _ _ _ (all_bytes byte_text (take i all)) (byte_text (get_or all i 0)) c.loop-byte.invariant c.in_ok-write_byte.ensures.all in
    rw (add-one, all_more byte_text all i 0 lt) both
