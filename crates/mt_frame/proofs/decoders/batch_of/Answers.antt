use Rattle.std.proofs.Common.{arith}
use Rattle.std.proofs.lemmas.Result.{err_from_is_err_and}
use Rattle.mt_frame.proofs.Rows.{batch_of_found, batch_wrong, frame_fails, wrong_is, wrong_there}
use Rattle.mt_frame.proofs.decoders.batch_of.Goals as goal

pub returns-in_err-body-clause-wrong : goal.returns-in_err-body-clause-wrong
returns-in_err-body-clause-wrong c =
    let p = err_from_is_err_and c.from_residual.result c.from_residual.ensures.1 in
    λ is records size of_format. frame_fails c.args.bytes.now c.in_err-body.field-0.0 c.in_err-body.ensures (wrong_is c.from_residual.result p.0 c.in_err-body.field-0.0 p.1 p.2 is) records size of_format.batch

pub returns-in_err-records-clause-wrong : goal.returns-in_err-records-clause-wrong
returns-in_err-records-clause-wrong c =
    let p = err_from_is_err_and c.from_residual-in_err-records.result c.from_residual-in_err-records.ensures.1 in
    λ is. batch_wrong c.args.format c.args.bytes.now c.in_ok-body.body.now c.in_ok-body._rest.now c.in_ok-body.ensures
    (c.row_of_format.ensures.wrong (wrong_there c.row_of_format.result c.in_err-records.field-0.0 c.in_err-records.was (wrong_is c.from_residual-in_err-records.result p.0 c.in_err-records.field-0.0 p.1 p.2 is)))

pub returns-clause-found : goal.returns-clause-found
returns-clause-found c =
    batch_of_found c.args.format c.args.bytes.now c.in_ok-body.body.now c.in_ok-body._rest.now c.in_ok-records.records.items (λ i. omega (arith, c.type_inv.bytes i)) c.in_ok-body.ensures c.in_ok-records.ensures.found
