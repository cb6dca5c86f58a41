use Rattle.std.proofs.lemmas.Result.{err_from_is_err_and}
use Rattle.mt_frame.proofs.Rows.{row_push, row_wrong, shorter, some_bytes, wrong_is}
use Rattle.mt_frame.proofs.decoders.row_of.Goals as goal

pub loop-rest-preserved : goal.loop-rest-preserved
loop-rest-preserved c =
    rw c.in_ok-push.ensures.items (row_push c.args.bytes.now c.loop-rest.records.items c.loop-rest.rest.now c.in_ok-record.after.now c.in_ok-record.record c.loop-rest.invariant c.in_ok-record.ensures)

pub loop-rest-smaller : goal.loop-rest-smaller
loop-rest-smaller c = shorter c.loop-rest.rest.now c.in_ok-record.after.now c.in_ok-record.record c.loop-rest.invariant.rest_fits c.in_ok-record.ensures

pub returns-in_err-record-clause-wrong : goal.returns-in_err-record-clause-wrong
returns-in_err-record-clause-wrong c =
    let p = err_from_is_err_and c.from_residual.result c.from_residual.ensures.1 in
    let left = some_bytes c.loop-rest.rest.now c.is_empty.result c.is_empty.ensures c.loop-rest-test.true in
    λ is. row_wrong c.args.bytes.now c.loop-rest.records.items c.loop-rest.rest.now c.in_err-record.field-0.0 c.loop-rest.invariant c.in_err-record.ensures left
    (wrong_is c.from_residual.result p.0 c.in_err-record.field-0.0 p.1 p.2 is)
