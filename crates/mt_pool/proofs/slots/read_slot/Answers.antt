use Rattle.std.proofs.Common.{rules, ℕ, take, drop, ◌∙◌, ap}
use Rattle.mt_pool.proofs.Frames.{read_whole, on_ok}
use Rattle.mt_pool.proofs.slots.read_slot.Goals as goal

pub returns : goal.returns
returns g c = record {
  size = search rules;
  read = let seen = g.D.Device.seen c.args.device.now in
      let size = c.read.auto.buf ∙ c.told-bytes in
      on_ok c.read.result (λ has. read_whole seen c.slot_at.result c.read.new.buf size has ∙ ap (λ (i : ℕ). take 4096 (drop i seen)) c.slot_at.ensures) c.read.ensures.bytes;
  same = search rules;
  crash = search rules;
  time = search rules;
  cause = search rules;
}
