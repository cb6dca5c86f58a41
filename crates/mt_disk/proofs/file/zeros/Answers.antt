use Rattle.std.proofs.Common.{rules}
use Rattle.mt_disk.proofs.file.zeros.Goals as goal

pub returns-clause-content : goal.returns-clause-content
returns-clause-content c = search rules
