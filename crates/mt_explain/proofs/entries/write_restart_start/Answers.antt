use Rattle.std.proofs.Common.{codes}
use Rattle.std.proofs.KnownBytes.{Appends-trans}
use Rattle.std.proofs.lemmas.Result.{err_from_is_err_and, on_err_weaker, on_ok_weaker}
use Rattle.mt_script.proofs.TextLemmas.{front_whole}
use Rattle.mt_explain.proofs.ListingLemmas.{front_next}
use Rattle.mt_explain.specs.Explanations.{op_start}
use Rattle.mt_explain.proofs.entries.write_restart_start.Goals as goal

pub returns-in_err-put-clause-front : goal.returns-in_err-put-clause-front
returns-in_err-put-clause-front g c =
    let p = err_from_is_err_and c.from_residual.result c.from_residual.ensures.1 in
    rw p.1 (front_whole _ _ (codes "restart ") (op_start c.args.txn c.args.op) c.in_err-put.ensures.front)

pub returns-clause-front : goal.returns-clause-front
returns-clause-front g c = on_err_weaker c.write_op_start.result (λ front. front_next _ _ _ (codes "restart ") (op_start c.args.txn c.args.op) c.in_ok-put.ensures.all front) c.write_op_start.ensures.front

pub returns-clause-all : goal.returns-clause-all
returns-clause-all g c = on_ok_weaker c.write_op_start.result (λ all. Appends-trans _ _ _ (codes "restart ") (op_start c.args.txn c.args.op) c.in_ok-put.ensures.all all) c.write_op_start.ensures.all
