use Rattle.std.proofs.Common.{rules}
use Rattle.mt_disk.proofs.file.FileDeviceDevice.sync.Goals as goal

pub returns-clause-durable : goal.returns-clause-durable
returns-clause-durable g c = search rules
