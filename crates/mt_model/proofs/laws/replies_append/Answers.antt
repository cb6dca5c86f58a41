use Rattle.mt_model.proofs.Appends.{alone-append}
use Rattle.mt_model.proofs.laws.replies_append.Goals as goal

pub returns : goal.returns
returns c = alone-append
