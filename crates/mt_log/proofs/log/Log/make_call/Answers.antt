use Rattle.std.proofs.Common.{rules, map}
use Rattle.mt_disk.proofs.Frame.{one_call}
use Rattle.mt_log.proofs.Steps.{leaves}
use Rattle.mt_log.proofs.Settled.{settled, leaves_either}
use Rattle.mt_log.proofs.log.Log.make_call.Goals as goal

pub returns : goal.returns
returns g c = record {
  on = let e = c.settle.ensures in
      settled c.args.self.now c.settle.new.self c.args.step c.call-done.result c.settle.result (g.D.Device.seen c.call-done.new.device) (g.D.Device.may_leave c.call-done.new.device)
      c.call-done.ensures.done c.call-done.ensures.failed e.cause.0 e.cause.1 e.call c.requires.stage;
  call = search rules;
  moments = let s = c.args.self.now in
      let bs = map (λ batch. batch.items) s.batches.items in
      one_call g.D.Device.moment g.D.Device.left_since (g.D.Device.may_leave c.args.device.now) (g.D.Device.may_leave c.call-done.new.device) c.args.device.now c.call-done.new.device _ (g.met.D.Device.only_now c.args.device.now) c.call-done.ensures.time
      (leaves (g.D.Device.seen c.args.device.now) (g.D.Device.may_leave c.args.device.now) s.place.start s.place.end s.next bs s.in_flight.items s.stage c.requires.on)
      (leaves_either c.call-done.result (g.D.Device.seen c.call-done.new.device) (g.D.Device.may_leave c.call-done.new.device) s.place.start s.place.end s.next bs s.in_flight.items c.args.step c.call-done.ensures.done c.call-done.ensures.failed);
  time = search rules;
  elsewhere = search rules;
  rest = search rules;
  alone = search rules;
  cause = search rules;
}
