use Rattle.std.proofs.Common.{◌<◌, length, inr, refl, ap, arith}
use Rattle.mt_base.specs.Limits.{device_bytes_of}
use Rattle.mt_log.proofs.Ruling.{read_bad, read_short}
use Rattle.mt_log.proofs.masters.read_slot.Goals as goal

pub returns-then-len-device_bytes-clause-cause : goal.returns-then-len-device_bytes-clause-cause
returns-then-len-device_bytes-clause-cause g c =
    let seen = g.D.Device.seen c.args.device.now in
    let short : length seen < device_bytes_of c.in-Open.slot.pages c.in-Open.slot.mib = omega (arith, c.if-len-device_bytes.true, c.device_bytes.ensures, c.len.ensures, ap length c.in_ok-read.ensures.seen) in
    inr (refl, read_short c.slots_are_read_back.ensures seen c.args.at c.read.new.buf c.in-Open.slot c.read.auto.buf c.in_ok-read.ensures.bytes c.in-Open.ensures short)

pub returns-in-Bad-clause-cause : goal.returns-in-Bad-clause-cause
returns-in-Bad-clause-cause g c = inr (refl, read_bad (g.D.Device.seen c.args.device.now) c.args.at c.read.new.buf c.read.auto.buf c.in_ok-read.ensures.bytes c.in-Bad.ensures)
