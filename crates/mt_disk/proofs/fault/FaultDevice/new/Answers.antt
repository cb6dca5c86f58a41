use Rattle.std.proofs.Common.{rules}
use Rattle.mt_disk.proofs.fault.FaultDevice.new.Goals as goal

pub returns-clause-calls : goal.returns-clause-calls
returns-clause-calls g c = search rules
