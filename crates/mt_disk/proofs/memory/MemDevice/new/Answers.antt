use Rattle.std.proofs.Common.{rules}
use Rattle.mt_disk.proofs.memory.MemDevice.new.Goals as goal

pub returns-clause-writes : goal.returns-clause-writes
returns-clause-writes c = search rules
