use Rattle.std.proofs.Common.{◌++◌, length}
use Rattle.mt_frame.specs.Grammar.{batch_text}
use Rattle.mt_frame.proofs.Rows.{one_body, one_batch, batch_read}
use Rattle.mt_frame.proofs.laws.batches_are_read_back.Goals as goal

pub returns-clause-one_batch : goal.returns-clause-one_batch
returns-clause-one_batch c = one_batch

pub returns-clause-one_body : goal.returns-clause-one_body
returns-clause-one_body c = one_body

pub returns-clause-read_back : goal.returns-clause-read_back
returns-clause-read_back c = λ records rest fits.
    (batch_read records rest fits, λ others size b. one_batch (batch_text records ++ rest) others records size (length (batch_text records)) b (batch_read records rest fits))
