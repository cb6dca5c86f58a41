use Rattle.std.proofs.Common.{rules, ℕ, List, ◌+◌, sym, subst, arith}
use Rattle.mt_disk.specs.Disk.{Has}
use Rattle.mt_log.proofs.fetch.body_length.Goals as goal

pub returns : goal.returns
returns g c = record {
  is = (subst (λ (l : List ℕ). Has (g.D.Device.seen c.args.device.now) (c.args.at + 1) l) (sym c.number_of-size.ensures) c.in_ok-read.ensures.bytes, omega arith);
  reads = search rules;
  cause = search rules;
}
