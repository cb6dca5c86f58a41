use Rattle.std.proofs.Common.{rules}
use Rattle.mt_disk.proofs.device.RefusalFromDeviceFault.from.Goals as goal

pub returns : goal.returns
returns c = search rules
