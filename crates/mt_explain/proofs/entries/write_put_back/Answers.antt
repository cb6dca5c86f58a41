use Rattle.std.proofs.Common.{codes}
use Rattle.std.proofs.lemmas.Result.{err_from_is_err_and, on_err_weaker}
use Rattle.mt_script.proofs.TextLemmas.{front_whole}
use Rattle.mt_explain.proofs.ListingLemmas.{front_next}
use Rattle.mt_explain.specs.Explanations.{restart_start}
use Rattle.mt_explain.proofs.entries.write_put_back.Goals as goal

pub returns-in_err-write_restart_start-clause-front : goal.returns-in_err-write_restart_start-clause-front
returns-in_err-write_restart_start-clause-front g c =
    let p = err_from_is_err_and c.from_residual.result c.from_residual.ensures.1 in
    rw p.1 (front_whole _ _ (restart_start c.args.operation.now.txn c.args.operation.now.op) (codes "put back\n") c.in_err-write_restart_start.ensures.front)

pub returns-clause-front : goal.returns-clause-front
returns-clause-front g c = on_err_weaker c.put.result (λ front. front_next _ _ _ (restart_start c.args.operation.now.txn c.args.operation.now.op) (codes "put back\n") c.in_ok-write_restart_start.ensures.all front) c.put.ensures.front
