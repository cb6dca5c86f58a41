use Rattle.std.proofs.Common.{codes}
use Rattle.std.proofs.lemmas.Result.{err_from_is_err_and, on_err_weaker}
use Rattle.mt_script.proofs.TextLemmas.{front_whole}
use Rattle.mt_explain.proofs.ListingLemmas.{front_next}
use Rattle.mt_explain.specs.Explanations.{op_start}
use Rattle.mt_explain.proofs.entries.write_dropped.Goals as goal

pub returns-in_err-write_op_start-clause-front : goal.returns-in_err-write_op_start-clause-front
returns-in_err-write_op_start-clause-front g c =
    let p = err_from_is_err_and c.from_residual.result c.from_residual.ensures.1 in
    rw p.1 (front_whole _ _ (op_start c.args.txn c.args.op) (codes "dropped\n") c.in_err-write_op_start.ensures.front)

pub returns-clause-front : goal.returns-clause-front
returns-clause-front g c =
    on_err_weaker c.put.result (λ front. front_next _ _ _ (op_start c.args.txn c.args.op) (codes "dropped\n") c.in_ok-write_op_start.ensures.all front) c.put.ensures.front
