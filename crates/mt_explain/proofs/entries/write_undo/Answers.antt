use Rattle.std.proofs.Common.{codes}
use Rattle.std.proofs.KnownBytes.{Appends-trans}
use Rattle.std.proofs.lemmas.Result.{err_from_is_err_and, on_err_weaker}
use Rattle.mt_script.proofs.TextLemmas.{front_whole}
use Rattle.mt_explain.proofs.ListingLemmas.{front_next}
use Rattle.mt_explain.specs.Explanations.{inverse_line, restart_start}
use Rattle.mt_explain.proofs.entries.write_undo.Goals as goal

pub returns-in_err-write_restart_start-clause-front : goal.returns-in_err-write_restart_start-clause-front
returns-in_err-write_restart_start-clause-front g c =
    let p = err_from_is_err_and c.from_residual.result c.from_residual.ensures.1 in
    rw p.1 (front_whole _ _ _ (inverse_line c.args.loser.now.done) (front_whole _ _ (restart_start c.args.loser.now.txn c.args.loser.now.op) (codes "undone by ") c.in_err-write_restart_start.ensures.front))

pub returns-in_err-put-clause-front : goal.returns-in_err-put-clause-front
returns-in_err-put-clause-front g c =
    let p = err_from_is_err_and c.from_residual-in_err-put.result c.from_residual-in_err-put.ensures.1 in
    rw p.1 (front_whole _ _ _ (inverse_line c.args.loser.now.done) (front_next _ _ _ (restart_start c.args.loser.now.txn c.args.loser.now.op) (codes "undone by ") c.in_ok-write_restart_start.ensures.all c.in_err-put.ensures.front))

pub returns-clause-front : goal.returns-clause-front
returns-clause-front g c =
    let before = Appends-trans _ _ _ (restart_start c.args.loser.now.txn c.args.loser.now.op) (codes "undone by ") c.in_ok-write_restart_start.ensures.all c.in_ok-put.ensures.all in
    on_err_weaker c.write_inverse.result (λ front. front_next _ _ _ _ (inverse_line c.args.loser.now.done) before front) c.write_inverse.ensures.front
