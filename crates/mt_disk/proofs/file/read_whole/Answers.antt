use Rattle.std.proofs.Common.{rules}
use Rattle.mt_disk.proofs.file.read_whole.Goals as goal

pub returns-then-branch-len : goal.returns-then-branch-len
returns-then-branch-len g c = search rules
