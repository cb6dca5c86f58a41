use Rattle.std.proofs.Common.{arith, suc, ◌≡◌, ◌<◌, ◌-◌, ◌++◌, ℕ, length, take, drop, ap, sym, subst, ◌∙◌}
use Rattle.std.specs.Io.KnownBytes.{Appends}
use Rattle.std.proofs.lemmas.Result.{err_from_is_err_and}
use Rattle.std.proofs.KnownBytes.{Appends-trans}
use Rattle.mt_replay.specs.Losers.{all_finished, finished_of}
use Rattle.mt_script.specs.Answers.{AppendsFront}
use Rattle.mt_script.proofs.TextLemmas.{front_whole}
use Rattle.mt_explain.proofs.HistoryLemmas.{undo_about, undo_more}
use Rattle.mt_explain.proofs.ListingLemmas.{front_next}
use Rattle.mt_explain.specs.Explanations.{undo_line, undo_lines}
use Rattle.mt_explain.proofs.entries.write_all_undone.Goals as goal

pub loop-i-preserved : goal.loop-i-preserved
loop-i-preserved g c =
    let losers = c.args.losers.now in
    let i = c.loop-i.i - 1 in
    let some = c.loop-i-test.true in
    let inside = c.loop-i.invariant.0 in
    let next : suc i ≡ c.loop-i.i = omega arith in
    let lt : i < length losers = omega arith in
    let l = c.index-losers-i.result in
    let before = subst (λ (n : ℕ). Appends (g.W.Write.contents c.args.writer.now) (g.W.Write.contents c.loop-i.writer) (undo_lines (all_finished (drop n losers)))) (sym next) c.loop-i.invariant.1 in
    let more = undo_more losers i l lt ∙ ap (λ x. undo_lines (all_finished (drop (suc i) losers)) ++ undo_line (finished_of x)) (sym c.index-losers-i.is) in
    (omega arith, subst (Appends _ _) (sym more) (Appends-trans _ _ _ (undo_lines (all_finished (drop (suc i) losers))) (undo_line (finished_of l)) before c.in_ok-write_undo.ensures.all))

pub returns-in_err-write_undo-clause-front : goal.returns-in_err-write_undo-clause-front
returns-in_err-write_undo-clause-front g c =
    let p = err_from_is_err_and c.from_residual.result c.from_residual.ensures.1 in
    let losers = c.args.losers.now in
    let i = c.loop-i.i - 1 in
    let some = c.loop-i-test.true in
    let inside = c.loop-i.invariant.0 in
    let next : suc i ≡ c.loop-i.i = omega arith in
    let lt : i < length losers = omega arith in
    let l = c.index-losers-i.result in
    let before = subst (λ (n : ℕ). Appends (g.W.Write.contents c.args.writer.now) (g.W.Write.contents c.loop-i.writer) (undo_lines (all_finished (drop n losers)))) (sym next) c.loop-i.invariant.1 in
    let more = undo_more losers i l lt ∙ ap (λ x. undo_lines (all_finished (drop (suc i) losers)) ++ undo_line (finished_of x)) (sym c.index-losers-i.is) in
    let front = front_next _ _ _ (undo_lines (all_finished (drop (suc i) losers))) (undo_line (finished_of l)) before c.in_err-write_undo.ensures.front in
    rw p.1 (subst (AppendsFront _ _) (sym (undo_about losers i)) (front_whole _ _ _ (undo_lines (all_finished (take i losers))) (subst (AppendsFront _ _) (sym more) front)))
