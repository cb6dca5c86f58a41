use Rattle.mt_live.proofs.Failures.{old_number_fails}
use Rattle.mt_live.proofs.mistakes.old_number_fails.Goals as goal

pub returns : goal.returns
returns c = old_number_fails
