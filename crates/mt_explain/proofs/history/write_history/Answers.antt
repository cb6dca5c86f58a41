use Rattle.std.proofs.Common.{map, sym, subst}
use Rattle.std.specs.List.{AllByRecursion, concat}
use Rattle.std.proofs.KnownBytes.{Appends-trans}
use Rattle.std.proofs.lemmas.Result.{err_from_is_err_and, on_err_weaker}
use Rattle.mt_frame.specs.Grammar.{IsOperation}
use Rattle.mt_replay.specs.Losers.{all_finished}
use Rattle.mt_replay.specs.declared.losers.Loser.{Loser}
use Rattle.mt_script.proofs.TextLemmas.{front_whole}
use Rattle.mt_explain.proofs.ListingLemmas.{front_next}
use Rattle.mt_explain.specs.Explanations.{batch_lines, put_back_line, undo_lines}
use Rattle.mt_explain.specs.Listings.{numbered}
use Rattle.mt_explain.proofs.history.write_history.Goals as goal

pub write_all_undone-requires : goal.write_all_undone-requires
write_all_undone-requires g c = subst (AllByRecursion (λ (l : Loser). IsOperation l.done)) (sym c.as_slice-3.ensures.value) c.requires

pub returns-in_err-write_batches-clause-front : goal.returns-in_err-write_batches-clause-front
returns-in_err-write_batches-clause-front g c =
    let h = c.args.history.now in
    let p = err_from_is_err_and c.from_residual.result c.from_residual.ensures.1 in
    let front = rw c.as_slice.ensures.value at c.in_err-write_batches.ensures.front in
    rw p.1 (front_whole _ _ _ (undo_lines (all_finished h.losers.items)) (front_whole _ _ (numbered batch_lines 1 h.batches.items) (concat (map put_back_line h.unfinished.items)) front))

pub returns-in_err-write_all_put_back-clause-front : goal.returns-in_err-write_all_put_back-clause-front
returns-in_err-write_all_put_back-clause-front g c =
    let h = c.args.history.now in
    let p = err_from_is_err_and c.from_residual-in_err-write_all_put_back.result c.from_residual-in_err-write_all_put_back.ensures.1 in
    let first = rw c.as_slice.ensures.value at c.in_ok-write_batches.ensures.all in
    let front = rw c.as_slice-2.ensures.value at c.in_err-write_all_put_back.ensures.front in
    rw p.1 (front_whole _ _ _ (undo_lines (all_finished h.losers.items)) (front_next _ _ _ (numbered batch_lines 1 h.batches.items) (concat (map put_back_line h.unfinished.items)) first front))

pub returns-clause-front : goal.returns-clause-front
returns-clause-front g c =
    let h = c.args.history.now in
    let first = rw c.as_slice.ensures.value at c.in_ok-write_batches.ensures.all in
    let second = rw c.as_slice-2.ensures.value at c.in_ok-write_all_put_back.ensures.all in
    let before = Appends-trans _ _ _ (numbered batch_lines 1 h.batches.items) (concat (map put_back_line h.unfinished.items)) first second in
    let last = rw c.as_slice-3.ensures.value at c.write_all_undone.ensures.front in
    on_err_weaker c.write_all_undone.result (λ front. front_next _ _ _ _ (undo_lines (all_finished h.losers.items)) before front) last
