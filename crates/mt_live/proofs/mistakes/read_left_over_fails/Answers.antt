use Rattle.mt_live.proofs.Failures.{read_left_over_fails}
use Rattle.mt_live.proofs.mistakes.read_left_over_fails.Goals as goal

pub returns : goal.returns
returns c = read_left_over_fails
