use Rattle.mt_live.proofs.Failures.{forgotten_add_fails}
use Rattle.mt_live.proofs.mistakes.forgotten_add_fails.Goals as goal

pub returns : goal.returns
returns c = forgotten_add_fails
