use Rattle.mt_disk.specs.Memory.{Leaves}
use Rattle.mt_disk.proofs.Past.{elapses_to}
use Rattle.mt_disk.proofs.memory.MemDeviceDevice.sync.Goals as goal

pub returns-clause-time : goal.returns-clause-time
returns-clause-time c = elapses_to c.args.self.now.past.items c.and-self.result.items c.args.self.now.state (Leaves c.settle.new.self) c.and-self.ensures
