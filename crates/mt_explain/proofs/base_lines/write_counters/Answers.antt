use Rattle.std.proofs.Common.{arith, suc, ◌<◌, ◌≡◌, ◌+◌, length, take, drop, get_or, sym, subst, add-one}
use Rattle.std.proofs.lemmas.Result.{err_from_is_err_and}
use Rattle.std.proofs.KnownBytes.{Appends-trans}
use Rattle.mt_model.specs.Tables.{no_count}
use Rattle.mt_script.specs.Answers.{AppendsFront}
use Rattle.mt_script.proofs.TextLemmas.{front_whole}
use Rattle.mt_explain.specs.Listings.{counter_line, counter_lines, numbered}
use Rattle.mt_explain.proofs.ListingLemmas.{front_next, numbered_about, numbered_more}
use Rattle.mt_explain.proofs.base_lines.write_counters.Goals as goal

pub returns-in_err-write_counter-clause-front : goal.returns-in_err-write_counter-clause-front
returns-in_err-write_counter-clause-front g c =
    let p = err_from_is_err_and c.from_residual.result c.from_residual.ensures.1 in
    let all = c.args.counters.now in
    let i = c.loop-number.number in
    let lt : i < length all = omega arith in
    let is : i ≡ 0 + i = omega arith in
    let front = front_next _ _ _ (counter_lines (take i all)) (counter_line i (get_or all i no_count)) c.loop-number.invariant c.in_err-write_counter.ensures.front in
    rw p.1 (subst (AppendsFront _ _) (sym (numbered_about counter_line 0 all i i no_count lt is)) (front_whole _ _ _ (numbered counter_line (0 + (i + 1)) (drop (suc i) all)) front))

pub loop-number-preserved : goal.loop-number-preserved
loop-number-preserved g c =
    let all = c.args.counters.now in
    let i = c.loop-number.number in
    let lt : i < length all = omega arith in
    let is : i ≡ 0 + i = omega arith in
    let both = Appends-trans _ _ _ (counter_lines (take i all)) (counter_line i (get_or all i no_count)) c.loop-number.invariant c.in_ok-write_counter.ensures.all in
    rw (add-one, numbered_more counter_line 0 all i i no_count lt is) both
