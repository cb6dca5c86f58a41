use Rattle.std.proofs.Common.{rules}
use Rattle.mt_disk.proofs.fault.FaultDeviceDevice.len.Goals as goal

pub returns : goal.returns
returns g c = search rules
