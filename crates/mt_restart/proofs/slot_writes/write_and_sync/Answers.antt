use Rattle.std.proofs.Common.{rules, sym, subst}
use Rattle.mt_disk.proofs.Frame.{goes_on}
use Rattle.mt_restart.specs.Turned.{AreInPlace, ButForSlots}
use Rattle.mt_log.proofs.Calls.{if_ok}
use Rattle.mt_restart.proofs.slot_writes.write_and_sync.Goals as goal

pub returns : goal.returns
returns g c = record {
  put = record {
    written = let seen = g.D.Device.seen in
        if_ok c.sync.result (subst (AreInPlace c.args.marked.now c.args.pages.now) (sym c.sync.ensures.seen) c.in_ok-write_in_place.ensures.written);
    slots = search rules;
    elsewhere = search rules;
    moments = let may = g.D.Device.may_leave in
        let d = c.args.device.now in let mid = c.write_in_place.new.device in let new = c.sync.new.self in
        goes_on g.D.Device.moment g.D.Device.left_since d mid new (ButForSlots c.args.marked.now (may d)) (may new) c.write_in_place.ensures.moments c.sync.ensures.time
        (λ k left. c.write_in_place.ensures.elsewhere k (c.sync.ensures.crash k left));
    cause = search rules;
  };
  durable = search rules;
}
