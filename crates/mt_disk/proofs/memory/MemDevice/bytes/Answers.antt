use Rattle.std.proofs.Common.{rules}
use Rattle.mt_disk.proofs.memory.MemDevice.bytes.Goals as goal

pub returns : goal.returns
returns c = search rules
