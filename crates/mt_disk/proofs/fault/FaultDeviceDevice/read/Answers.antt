use Rattle.std.proofs.Common.{rules}
use Rattle.mt_disk.proofs.fault.FaultDeviceDevice.read.Goals as goal

pub returns-clause-bytes : goal.returns-clause-bytes
returns-clause-bytes g c = search rules
