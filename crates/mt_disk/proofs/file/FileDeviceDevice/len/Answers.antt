use Rattle.std.proofs.Common.{rules}
use Rattle.mt_disk.proofs.file.FileDeviceDevice.len.Goals as goal

pub returns : goal.returns
returns g c = search rules
