use Rattle.std.proofs.Common.{rules}
use Rattle.mt_replay.proofs.undo_pass.Restored.checked.Goals as goal

pub returns-in-Some-clause-cause : goal.returns-in-Some-clause-cause
returns-in-Some-clause-cause c = search rules
