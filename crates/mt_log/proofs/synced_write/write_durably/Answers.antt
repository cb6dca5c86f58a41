use Rattle.std.proofs.Common.{rules, length, sym, subst}
use Rattle.mt_disk.specs.Disk.{Wrote}
use Rattle.mt_disk.proofs.Frame.{goes_on, one_call, torn_refl}
use Rattle.mt_log.specs.Area.{TornFrom}
use Rattle.mt_log.proofs.Calls.{if_ok}
use Rattle.mt_log.proofs.synced_write.write_durably.Goals as goal

pub returns-in_err-write_at : goal.returns-in_err-write_at
returns-in_err-write_at g c = record {
  written = search rules;
  durable = search rules;
  moments = let may = g.D.Device.may_leave in
      let at = c.args.at in let size = length c.args.bytes.now in
      let d = c.args.device.now in let new = c.write_at.new.self in
      one_call g.D.Device.moment g.D.Device.left_since (may d) (may new) d new (TornFrom (may d) at size) (g.met.D.Device.only_now d) c.write_at.ensures.time
      (λ k left. (k, left, torn_refl at size k)) c.write_at.ensures.crash;
  elsewhere = search rules;
  rest = search rules;
  cause = search rules;
}

pub returns : goal.returns
returns g c = record {
  written = let seen = g.D.Device.seen in
      if_ok c.sync.result (subst (Wrote c.args.at c.args.bytes.now (seen c.args.device.now)) (sym c.sync.ensures.seen) c.in_ok-write_at.ensures.written);
  durable = search rules;
  moments = let m = g.D.Device.moment in let l = g.D.Device.left_since in let may = g.D.Device.may_leave in
      let at = c.args.at in let size = length c.args.bytes.now in
      let d = c.args.device.now in let mid = c.write_at.new.self in let new = c.sync.new.self in
      goes_on m l d mid new (TornFrom (may d) at size) (may new)
      (one_call m l (may d) (may mid) d mid (TornFrom (may d) at size) (g.met.D.Device.only_now d) c.write_at.ensures.time (λ k left. (k, left, torn_refl at size k)) c.write_at.ensures.crash)
      c.sync.ensures.time (λ k left. c.write_at.ensures.crash k (c.sync.ensures.crash k left));
  elsewhere = search rules;
  rest = search rules;
  cause = search rules;
}
