use Rattle.mt_live.proofs.Failures.{present_number_fails}
use Rattle.mt_live.proofs.mistakes.present_number_fails.Goals as goal

pub returns : goal.returns
returns c = present_number_fails
