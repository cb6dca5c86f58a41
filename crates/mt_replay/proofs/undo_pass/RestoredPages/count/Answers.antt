use Rattle.std.proofs.Common.{rules}
use Rattle.mt_replay.proofs.undo_pass.RestoredPages.count.Goals as goal

pub returns : goal.returns
returns c = search rules
