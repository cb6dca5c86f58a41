use Rattle.mt_live.proofs.Failures.{phantom_fails}
use Rattle.mt_live.proofs.mistakes.phantom_fails.Goals as goal

pub returns : goal.returns
returns c = phantom_fails
