use Rattle.mt_model.proofs.Appends.{after-append}
use Rattle.mt_model.proofs.laws.after_appends.Goals as goal

pub returns : goal.returns
returns c = after-append
