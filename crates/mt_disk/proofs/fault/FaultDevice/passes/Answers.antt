use Rattle.std.proofs.Common.{arith}
use Rattle.std.proofs.lemmas.Grind.{common_steps}
use Rattle.mt_disk.proofs.fault.FaultDevice.passes.Goals as goal

pub returns-then-self-eq0-clause-failures : goal.returns-then-self-eq0-clause-failures
returns-then-self-eq0-clause-failures g c = grind (arith, common_steps)
