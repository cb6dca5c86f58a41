use Rattle.std.proofs.Common.{rules}
use Rattle.mt_disk.proofs.fault.FaultDeviceDevice.sync.Goals as goal

pub returns-clause-durable : goal.returns-clause-durable
returns-clause-durable g c = search rules

pub returns-then-not-passes-clause-time : goal.returns-then-not-passes-clause-time
returns-then-not-passes-clause-time g c = search rules
