use Rattle.std.proofs.Common.{◌∙◌, ◌-◌, ◌+◌, ◌≤◌, [], inl, ℕ, List, refl, ap, subst, arith, get_or}
use Rattle.mt_disk.specs.Disk.{LeavesOnly}
use Rattle.mt_disk.proofs.Frame.{leaves_more, one_of, torn_within, follows_within}
use Rattle.mt_frame.specs.declared.records.Record.{Record}
use Rattle.mt_log.specs.Area.{TornFrom}
use Rattle.mt_log.specs.Batch.{Scans}
use Rattle.mt_log.specs.First.{IsBegun}
use Rattle.mt_log.specs.Seen.{LogSeen, calls_after, is_failed, landed}
use Rattle.mt_log.specs.declared.area.AreaPlace.{AreaPlace}
use Rattle.mt_log.specs.declared.log.Log.{Log}
use Rattle.mt_log.specs.Words.{seen_of, area_start, area_end, area_size, durable_batches, in_flight, IsOn}
use Rattle.mt_log.proofs.AtRest.{area_begins, scans_at_rest}
use Rattle.mt_log.proofs.Begun.{HasFirst, begun_facts, first_facts}
use Rattle.mt_log.proofs.Frames.{frame_then, frame_within, follows_more, torn_more}
use Rattle.mt_log.proofs.Settled.{same_area, batches_in}
use Rattle.mt_log.specs.declared.stage.Step.TheVariants.{WriteBody}
use Rattle.mt_log.specs.declared.stage.Stage.TheVariants.{Forcing}
use Rattle.mt_log.proofs.first_batch.begin_prepared.Goals as goal

-- the closing of the first gate, as a range of the area
module _ (place : AreaPlace) (images : List Record) (log : Log) (first : HasFirst place images log) where
  low : place.start ≤ log.next
  low = let gate = first.gate in omega arith

  high : log.next + 1 ≤ place.start + (place.end - place.start)
  high = let gate = first.gate in let some = place.some_bytes in omega arith

pub force_all-requires-clause-on : goal.force_all-requires-clause-on
unfolding IsOn seen_of
force_all-requires-clause-on g c =
    let p = c.requires.prepared.0 in let images = c.requires.prepared.1 in let log = c.args.prepared in let e = first_facts p images log c.requires.prepared.2 in
    same_area (g.D.Device.seen c.write_durably.new.device) (g.D.Device.may_leave c.write_durably.new.device) p.start log.place.start p.end log.place.end p.start log.next [] (batches_in log) images log.in_flight.items (Forcing WriteBody) log.stage
    e.start e.end e.gate e.batches e.flying e.stage
    (record {
      within = let w = c.requires.within in let size = c.write_durably.ensures.rest.size in let is = e.end in omega arith;
      order = omega arith;
      room = c.requires.prepared.2.room;
      front = λ k left. refl;
      outcome = λ k left is. let at = log.next in let shut = ap (λ (l : List ℕ). get_or l at 0) (c.in_ok-write_durably.ensures.durable k left) ∙ one_of (g.D.Device.seen c.write_durably.new.device) at 0 c.in_ok-write_durably.ensures.written.has in let gate = e.gate in absurd (omega (arith, shut, ap (λ (n : ℕ). get_or k n 0) gate));
      present = tt;
    })

pub force_all-requires-clause-under_way : goal.force_all-requires-clause-under_way
force_all-requires-clause-under_way g c = let some = ap (λ (x : LogSeen). calls_after x.stage) c.requires.prepared.2.seen in omega (arith, some)

pub force_all-requires-clause-well : goal.force_all-requires-clause-well
force_all-requires-clause-well g c = ap (λ (x : LogSeen). is_failed x.stage) c.requires.prepared.2.seen

pub write_durably-requires : goal.write_durably-requires
write_durably-requires g c = let e = first_facts c.requires.prepared.0 c.requires.prepared.1 c.args.prepared c.requires.prepared.2 in let w = c.requires.within in let gate = e.gate in let is = e.end in let some = c.requires.prepared.0.some_bytes in omega arith

pub returns-in_err-write_durably-clause-begins : goal.returns-in_err-write_durably-clause-begins
returns-in_err-write_durably-clause-begins g c p images is = let e = first_facts p images c.args.prepared is in let may = g.D.Device.may_leave in
    leaves_more g.D.Device.moment g.D.Device.left_since c.args.device.now c.write_durably.new.device _ _
    (subst (λ (n : ℕ). LeavesOnly g.D.Device.moment g.D.Device.left_since c.args.device.now c.write_durably.new.device (TornFrom (may c.args.device.now) n 1)) e.gate c.write_durably.ensures.moments) (λ k torn. inl torn)

pub returns-in_err-write_durably-clause-moments : goal.returns-in_err-write_durably-clause-moments
returns-in_err-write_durably-clause-moments g c p images is = let e = first_facts p images c.args.prepared is in
    frame_within g.D.Device (g.D.Device.may_leave c.args.device.now) c.args.device.now c.write_durably.new.device c.args.prepared.next 1 p.start (p.end - p.start) (low p images _ e) (high p images _ e) c.write_durably.ensures.moments

pub returns-in_err-write_durably-clause-elsewhere : goal.returns-in_err-write_durably-clause-elsewhere
returns-in_err-write_durably-clause-elsewhere g c p images is = let e = first_facts p images c.args.prepared is in
    follows_within c.args.prepared.next 1 p.start p.end (g.D.Device.may_leave c.args.device.now) (g.D.Device.may_leave c.write_durably.new.device) (low p images _ e) (let gate = e.gate in let some = p.some_bytes in omega arith) c.write_durably.ensures.elsewhere

pub returns-in_err-write_durably-clause-rest : goal.returns-in_err-write_durably-clause-rest
returns-in_err-write_durably-clause-rest g c p images is = let e = first_facts p images c.args.prepared is in
    torn_within c.args.prepared.next 1 p.start (p.end - p.start) (g.D.Device.seen c.args.device.now) (g.D.Device.seen c.write_durably.new.device) c.write_durably.ensures.rest (low p images _ e) (high p images _ e)

pub returns-in_err-force_all-clause-begins : goal.returns-in_err-force_all-clause-begins
returns-in_err-force_all-clause-begins g c p images is = let e = first_facts p images c.args.prepared is in
    let log = c.args.prepared in let may = g.D.Device.may_leave in
    area_begins g.D.Device c.args.device.now c.write_durably.new.device c.force_all.new.device (may c.args.device.now) p.start p.end
    (area_start log) (area_end log) images (in_flight log) (durable_batches log) e.start e.end e.batches e.flying
    (subst (λ (n : ℕ). LeavesOnly g.D.Device.moment g.D.Device.left_since c.args.device.now c.write_durably.new.device (TornFrom (may c.args.device.now) n 1)) e.gate c.write_durably.ensures.moments) c.force_all.ensures.scans

pub returns-in_err-force_all-clause-elsewhere : goal.returns-in_err-force_all-clause-elsewhere
returns-in_err-force_all-clause-elsewhere g c p images is = let e = first_facts p images c.args.prepared is in
    let may = g.D.Device.may_leave in let log = c.args.prepared in
    follows_more (may c.args.device.now) (may c.write_durably.new.device) (may c.force_all.new.device) p.start (p.end - p.start) (area_start log) (area_size log) e.start e.size
    (follows_within log.next 1 p.start p.end (may c.args.device.now) (may c.write_durably.new.device) (low p images _ e) (let gate = e.gate in let some = p.some_bytes in omega arith) c.write_durably.ensures.elsewhere) c.force_all.ensures.elsewhere

pub returns-in_err-force_all-clause-rest : goal.returns-in_err-force_all-clause-rest
returns-in_err-force_all-clause-rest g c p images is = let e = first_facts p images c.args.prepared is in
    let seen = g.D.Device.seen in let log = c.args.prepared in
    torn_more (seen c.args.device.now) (seen c.write_durably.new.device) (seen c.force_all.new.device) p.start (p.end - p.start) (area_start log) (area_size log) e.start e.size
    (torn_within log.next 1 p.start (p.end - p.start) (seen c.args.device.now) (seen c.write_durably.new.device) c.write_durably.ensures.rest (low p images _ e) (high p images _ e)) c.force_all.ensures.rest

pub returns-in_err-force_all-clause-moments : goal.returns-in_err-force_all-clause-moments
returns-in_err-force_all-clause-moments g c p images is = let e = first_facts p images c.args.prepared is in
    let m = g.D.Device.moment in let l = g.D.Device.left_since in let may = g.D.Device.may_leave in let log = c.args.prepared in
    let mid = c.write_durably.new.device in let new = c.force_all.new.device in
    frame_then g.D.Device g.met.D.Device.only_now p.start (p.end - p.start) c.args.device.now mid new
    (frame_within g.D.Device (may c.args.device.now) c.args.device.now mid log.next 1 p.start (p.end - p.start) (low p images _ e) (high p images _ e) c.write_durably.ensures.moments)
    (follows_within log.next 1 p.start p.end (may c.args.device.now) (may mid) (low p images _ e) (let gate = e.gate in let some = p.some_bytes in omega arith) c.write_durably.ensures.elsewhere)
    (subst (λ (k : ℕ). LeavesOnly m l mid new (TornFrom (may mid) k (p.end - p.start))) e.start (subst (λ (k : ℕ). LeavesOnly m l mid new (TornFrom (may mid) (area_start log) k)) e.size c.force_all.ensures.moments))

pub returns-clause-begins : goal.returns-clause-begins
returns-clause-begins g c p images is = let e = first_facts p images c.args.prepared is in
    let log = c.args.prepared in let may = g.D.Device.may_leave in
    area_begins g.D.Device c.args.device.now c.write_durably.new.device c.force_all.new.device (may c.args.device.now) p.start p.end
    (area_start log) (area_end log) images (in_flight log) (durable_batches log) e.start e.end e.batches e.flying
    (subst (λ (n : ℕ). LeavesOnly g.D.Device.moment g.D.Device.left_since c.args.device.now c.write_durably.new.device (TornFrom (may c.args.device.now) n 1)) e.gate c.write_durably.ensures.moments) c.force_all.ensures.scans

pub returns-clause-elsewhere : goal.returns-clause-elsewhere
returns-clause-elsewhere g c p images is = let e = first_facts p images c.args.prepared is in
    let may = g.D.Device.may_leave in let log = c.args.prepared in
    follows_more (may c.args.device.now) (may c.write_durably.new.device) (may c.force_all.new.device) p.start (p.end - p.start) (area_start log) (area_size log) e.start e.size
    (follows_within log.next 1 p.start p.end (may c.args.device.now) (may c.write_durably.new.device) (low p images _ e) (let gate = e.gate in let some = p.some_bytes in omega arith) c.write_durably.ensures.elsewhere) c.force_all.ensures.elsewhere

pub returns-clause-rest : goal.returns-clause-rest
returns-clause-rest g c p images is = let e = first_facts p images c.args.prepared is in
    let seen = g.D.Device.seen in let log = c.args.prepared in
    torn_more (seen c.args.device.now) (seen c.write_durably.new.device) (seen c.force_all.new.device) p.start (p.end - p.start) (area_start log) (area_size log) e.start e.size
    (torn_within log.next 1 p.start (p.end - p.start) (seen c.args.device.now) (seen c.write_durably.new.device) c.write_durably.ensures.rest (low p images _ e) (high p images _ e)) c.force_all.ensures.rest

pub returns-clause-moments : goal.returns-clause-moments
returns-clause-moments g c p images is = let e = first_facts p images c.args.prepared is in
    let m = g.D.Device.moment in let l = g.D.Device.left_since in let may = g.D.Device.may_leave in let log = c.args.prepared in
    let mid = c.write_durably.new.device in let new = c.force_all.new.device in
    frame_then g.D.Device g.met.D.Device.only_now p.start (p.end - p.start) c.args.device.now mid new
    (frame_within g.D.Device (may c.args.device.now) c.args.device.now mid log.next 1 p.start (p.end - p.start) (low p images _ e) (high p images _ e) c.write_durably.ensures.moments)
    (follows_within log.next 1 p.start p.end (may c.args.device.now) (may mid) (low p images _ e) (let gate = e.gate in let some = p.some_bytes in omega arith) c.write_durably.ensures.elsewhere)
    (subst (λ (k : ℕ). LeavesOnly m l mid new (TornFrom (may mid) k (p.end - p.start))) e.start (subst (λ (k : ℕ). LeavesOnly m l mid new (TornFrom (may mid) (area_start log) k)) e.size c.force_all.ensures.moments))

pub returns-clause-begun : goal.returns-clause-begun
returns-clause-begun g c p images is = λ k left.
    let new = c.force_all.new.log in
    let now : IsBegun p images new = c.in_ok-force_all.ensures.log ∙ ap landed is.seen in
    let b = begun_facts p images new now in
    subst (λ (x : LogSeen). Scans k x.start x.end x.batches) now
    (scans_at_rest g.D.Device new c.force_all.new.device c.force_all.ensures.on b.calls b.well k left)
