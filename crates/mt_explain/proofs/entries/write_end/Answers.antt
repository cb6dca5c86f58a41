use Rattle.std.proofs.KnownBytes.{Appends-trans}
use Rattle.std.proofs.lemmas.Result.{err_from_is_err_and, on_err_weaker}
use Rattle.mt_script.proofs.TextLemmas.{front_whole}
use Rattle.mt_explain.proofs.ListingLemmas.{front_next}
use Rattle.mt_explain.specs.Explanations.{done_line, op_start, undoes_text}
use Rattle.mt_explain.proofs.entries.write_end.Goals as goal

pub returns-in_err-write_op_start-clause-front : goal.returns-in_err-write_op_start-clause-front
returns-in_err-write_op_start-clause-front g c =
    let p = err_from_is_err_and c.from_residual.result c.from_residual.ensures.1 in
    rw p.1 (front_whole _ _ _ (done_line c.args.done.now) (front_whole _ _ (op_start c.args.txn c.args.op) (undoes_text c.args.undoes) c.in_err-write_op_start.ensures.front))

pub returns-in_err-write_undoes-clause-front : goal.returns-in_err-write_undoes-clause-front
returns-in_err-write_undoes-clause-front g c =
    let p = err_from_is_err_and c.from_residual-in_err-write_undoes.result c.from_residual-in_err-write_undoes.ensures.1 in
    rw p.1 (front_whole _ _ _ (done_line c.args.done.now) (front_next _ _ _ (op_start c.args.txn c.args.op) (undoes_text c.args.undoes) c.in_ok-write_op_start.ensures.all c.in_err-write_undoes.ensures.front))

pub returns-clause-front : goal.returns-clause-front
returns-clause-front g c =
    let done1 = Appends-trans _ _ _ (op_start c.args.txn c.args.op) (undoes_text c.args.undoes) c.in_ok-write_op_start.ensures.all c.in_ok-write_undoes.ensures.all in
    on_err_weaker c.write_done.result (λ front. front_next _ _ _ _ (done_line c.args.done.now) done1 front) c.write_done.ensures.front
