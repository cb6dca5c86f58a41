use Rattle.std.proofs.Common.{rules}
use Rattle.mt_disk.proofs.memory.MemDeviceDevice.len.Goals as goal

pub returns : goal.returns
returns c = search rules
