use Rattle.mt_live.proofs.Failures.{early_release_fails}
use Rattle.mt_live.proofs.mistakes.early_release_fails.Goals as goal

pub returns : goal.returns
returns c = early_release_fails
