use Rattle.std.proofs.Common.{refl, arith}
use Rattle.mt_format.proofs.Founded.{format_stands}
use Rattle.mt_format.proofs.format_calls.format.Goals as goal

pub returns-clause-quiet : goal.returns-clause-quiet
returns-clause-quiet g c = c.in_ok-write_all.ensures.cause.quiet refl

pub returns-clause-short : goal.returns-clause-short
returns-clause-short g c = λ short. let long = c.if-len-device_len.false in absurd (omega (arith, short, long, c.len.ensures, c.device_len.ensures))

pub returns-clause-stands : goal.returns-clause-stands
returns-clause-stands g c = format_stands c.args.schema.now (g.D.Device.seen c.write_all.new.device) c.keeps_bounds.ensures c.in_ok-write_all.ensures.formatted
