use Rattle.std.proofs.Common.{rules, map, subst, sym, ap, ◌∙◌, OnOk}
use Rattle.mt_log.specs.Area.{Area, AreaAfter}
use Rattle.mt_log.specs.declared.stage.Step.{Step}
use Rattle.mt_log.specs.declared.stage.Stage.{Stage}
use Rattle.mt_log.specs.declared.stage.Stage.TheVariants.{Forcing}
use Rattle.mt_log.proofs.Calls.{body_done, body_not_done, gate_done, gate_not_done, all_done, body_elsewhere, body_rest}
use Rattle.mt_log.proofs.log.Log.call.Goals as goal

pub returns-in-WriteBody : goal.returns-in-WriteBody
returns-in-WriteBody g c =
    let s = c.args.self.now in
    let seen = g.D.Device.seen c.args.device.now in let may = g.D.Device.may_leave c.args.device.now in
    let seen2 = g.D.Device.seen c.write_at.new.self in let may2 = g.D.Device.may_leave c.write_at.new.self in
    let bs = map (λ batch. batch.items) s.batches.items in
    let stage = c.requires.stage ∙ ap Forcing c.in-WriteBody.is in
    let on = subst (λ (x : Stage). Area seen may s.place.start s.place.end s.next bs s.in_flight.items x) stage c.requires.on in
    let text = c.deref.ensures.value ∙ (s.under_way (λ is. cc)).whole in
    record {
      done = subst (λ (x : Step). OnOk c.write_at.result (AreaAfter x seen2 may2 s.place.start s.place.end s.next bs s.in_flight.items)) (sym c.in-WriteBody.is)
          (body_done c.write_at.result seen seen2 may may2 s.place.start s.place.end s.next bs s.in_flight.items c.deref.result.now on text c.write_at.ensures.written c.write_at.ensures.crash);
      failed = body_not_done c.write_at.result seen seen2 may may2 s.place.start s.place.end s.next bs s.in_flight.items c.deref.result.now on text c.write_at.ensures.rest c.write_at.ensures.crash;
      time = search rules;
      elsewhere = body_elsewhere seen may may2 s.place.start s.place.end s.next bs s.in_flight.items c.deref.result.now on text c.write_at.ensures.crash;
      rest = body_rest seen seen2 may s.place.start s.place.end s.next bs s.in_flight.items c.deref.result.now on text c.write_at.ensures.rest;
      alone = search rules;
      cause = search rules;
    }

pub returns-in-WriteGate : goal.returns-in-WriteGate
returns-in-WriteGate g c =
    let s = c.args.self.now in
    let seen = g.D.Device.seen c.args.device.now in let may = g.D.Device.may_leave c.args.device.now in
    let seen2 = g.D.Device.seen c.write_at-in-WriteGate.new.self in let may2 = g.D.Device.may_leave c.write_at-in-WriteGate.new.self in
    let bs = map (λ batch. batch.items) s.batches.items in
    let stage = c.requires.stage ∙ ap Forcing c.in-WriteGate.is in
    let on = subst (λ (x : Stage). Area seen may s.place.start s.place.end s.next bs s.in_flight.items x) stage c.requires.on in
    record {
      done = subst (λ (x : Step). OnOk c.write_at-in-WriteGate.result (AreaAfter x seen2 may2 s.place.start s.place.end s.next bs s.in_flight.items)) (sym c.in-WriteGate.is)
          (gate_done c.write_at-in-WriteGate.result seen seen2 may may2 s.place.start s.place.end s.next bs s.in_flight.items on c.write_at-in-WriteGate.ensures.written c.write_at-in-WriteGate.ensures.crash);
      failed = gate_not_done c.write_at-in-WriteGate.result seen seen2 may may2 s.place.start s.place.end s.next bs s.in_flight.items on c.write_at-in-WriteGate.ensures.rest c.write_at-in-WriteGate.ensures.crash;
      time = search rules;
      elsewhere = search rules;
      rest = search rules;
      alone = search rules;
      cause = search rules;
    }

pub returns-in-SyncGate : goal.returns-in-SyncGate
returns-in-SyncGate g c =
    let s = c.args.self.now in
    let seen = g.D.Device.seen c.args.device.now in let may = g.D.Device.may_leave c.args.device.now in
    let seen2 = g.D.Device.seen c.sync-in-SyncGate.new.self in let may2 = g.D.Device.may_leave c.sync-in-SyncGate.new.self in
    let bs = map (λ batch. batch.items) s.batches.items in
    let stage = c.requires.stage ∙ ap Forcing c.in-SyncGate.is in
    let on = subst (λ (x : Stage). Area seen may s.place.start s.place.end s.next bs s.in_flight.items x) stage c.requires.on in
    record {
      done = subst (λ (x : Step). OnOk c.sync-in-SyncGate.result (AreaAfter x seen2 may2 s.place.start s.place.end s.next bs s.in_flight.items)) (sym c.in-SyncGate.is)
          (all_done c.sync-in-SyncGate.result seen seen2 may may2 s.place.start s.place.end s.next bs s.in_flight.items on (g.met.D.Device.present c.args.device.now) c.sync-in-SyncGate.ensures.seen c.sync-in-SyncGate.ensures.durable);
      failed = search rules;
      time = search rules;
      elsewhere = search rules;
      rest = search rules;
      alone = search rules;
      cause = search rules;
    }
