use Rattle.std.proofs.Common.{◌∙◌, sym, ap}
use Rattle.mt_disk.specs.declared.memory.MemDevice.{MemDevice}
use Rattle.mt_world.specs.Stopping.{taken_by}
use Rattle.mt_world.specs.declared.stopping_device.StoppingDevice.{StoppingDevice}
use Rattle.mt_world.proofs.crash.calls_before.Goals as goal

pub returns-in-Ok-clause-begins : goal.returns-in-Ok-clause-begins
returns-in-Ok-clause-begins c = ∣ record {
  device = c.new-device.result;
  unused = c.new-device.ensures.taken;
  kernel = c.in-Ok.kernel;
  begun = c.in-Ok.ensures.begun;
  took = sym (c.taken.ensures ∙ ap (λ (d : StoppingDevice MemDevice). taken_by d) c.into_device.ensures.device);
} ∣₁
