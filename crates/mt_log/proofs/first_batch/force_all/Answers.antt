use Rattle.std.proofs.Common.{Ok, rules, ◌≡◌, ◌<◌, ◌-◌, ap, subst, sym, ◌∙◌, refl, ⊎_elim, arith}
use Rattle.mt_log.specs.Area.{step_behind}
use Rattle.mt_log.specs.Seen.{LogSeen, calls_after, landed}
use Rattle.mt_log.specs.Steps.{ForceSteps, GoesOn}
use Rattle.mt_log.specs.Words.{seen_of, durable_batches, in_flight, area_start, area_end, area_size, coming, IsLast}
use Rattle.mt_log.specs.declared.log.Forced.{Forced}
use Rattle.mt_log.specs.declared.log.Forced.TheVariants.{More, Durable, Idle as Nothing}
use Rattle.mt_log.specs.declared.stage.Stage.{Stage}
use Rattle.mt_log.specs.declared.stage.Stage.TheVariants.{Forcing}
use Rattle.mt_disk.proofs.Frame.{started, torn_refl}
use Rattle.mt_log.proofs.AtRest.{scans_forced, scans_more, coming-in_flight}
use Rattle.mt_log.proofs.Calls.{one_outcome}
use Rattle.mt_log.proofs.Stepped.{begun_busy, stepped}
use Rattle.mt_log.proofs.Frames.{frame_none, frame_more, follows_more, torn_more}
use Rattle.mt_log.proofs.first_batch.force_all.Goals as goal

module _ (was old new : LogSeen) (some : 0 < calls_after old.stage) (same : old ≡ record was { stage = old.stage }) where
  -- another call is to come
  same_on : GoesOn old new → new ≡ record was { stage = new.stage }
  same_on g =
      let now : new ≡ record was { stage = Forcing (step_behind g.step) } = g.now ∙ ap (λ (x : LogSeen). record x { stage = Forcing (step_behind g.step) }) (begun_busy old some ∙ same) in
      now ∙ ap (λ (s : Stage). record was { stage = s }) (sym (ap (λ (x : LogSeen). x.stage) now))

  -- this was the last one
  done : (forced : Forced) → (forced ≡ More → ⊥) → ForceSteps old new (Ok forced) → (new ≡ landed was) × IsLast forced
  done More not f = absurd (not refl)
  done Nothing not f = absurd (let none = ap calls_after f.stage in omega (arith, some, none))
  done (Durable at) not f = (f.now ∙ ap landed same, tt)

pub loop-init : goal.loop-init
loop-init g c =
    let log = c.args.log.now in
    let d = c.args.device.now in
    record {
      on = c.requires.on;
      calls = c.requires.under_way;
      well = c.requires.well;
      same = refl;
      faults = refl;
      scans = started g.D.Device.moment g.D.Device.left_since d _ (λ k left. scans_forced g.D.Device log d c.requires.on k (g.met.D.Device.only_now d k left));
      moments = frame_none g.D.Device g.met.D.Device.only_now (area_start log) (area_size log) d;
      elsewhere = λ k left. (k, left, torn_refl (area_start log) (area_size log) k);
      rest = torn_refl (area_start log) (area_size log) (g.D.Device.seen d);
    }

pub loop-preserved : goal.loop-preserved
loop-preserved g c =
    let inv = c.loop.invariant in
    let e = c.force_step.ensures in
    let old = c.loop.log in
    let new = c.force_step.new.self in
    let was = c.args.log.now in
    let D = g.D.Device in
    let o = c.args.device.now in let m = c.loop.device in let n = c.force_step.new.device in
    let start = ap (λ (x : LogSeen). x.start) inv.same in
    let size = ap (λ (x : LogSeen). x.end - x.start) inv.same in
    let steps : GoesOn (seen_of old) (seen_of new) = subst (λ (f : Forced). ForceSteps (seen_of old) (seen_of new) (Ok f)) c.in-More.is c.in_ok-force_step.ensures.steps in
    let t = stepped old new (Ok More) steps in
    record {
      on = e.on;
      calls = (t.step.2 inv.calls).3;
      well = t.well refl;
      same = same_on (seen_of was) (seen_of old) (seen_of new) inv.calls inv.same steps;
      faults = c.in_ok-force_step.ensures.cause.quiet refl ∙ inv.faults;
      scans = scans_more D o m n (area_start was) (area_start old) (area_end was) (area_end old) (durable_batches was) (durable_batches old) (in_flight was) (coming old)
          start (ap (λ (x : LogSeen). x.end) inv.same) (ap (λ (x : LogSeen). x.batches) inv.same) (coming-in_flight old inv.calls ∙ ap (λ (x : LogSeen). x.flight) inv.same) inv.scans e.moments;
      moments = frame_more D g.met.D.Device.only_now (area_start was) (area_size was) o m n (area_start old) (area_size old) start size inv.moments inv.elsewhere e.within.time e.within.elsewhere;
      elsewhere = follows_more (D.may_leave o) (D.may_leave m) (D.may_leave n) (area_start was) (area_size was) (area_start old) (area_size old) start size inv.elsewhere e.within.elsewhere;
      rest = torn_more (D.seen o) (D.seen m) (D.seen n) (area_start was) (area_size was) (area_start old) (area_size old) start size inv.rest e.within.rest;
    }

pub returns : goal.returns
returns g c =
    let inv = c.loop.invariant in
    let e = c.force_step.ensures in
    let old = c.loop.log in
    let new = c.force_step.new.self in
    let was = c.args.log.now in
    let D = g.D.Device in
    let o = c.args.device.now in let m = c.loop.device in let n = c.force_step.new.device in
    let start = ap (λ (x : LogSeen). x.start) inv.same in
    let size = ap (λ (x : LogSeen). x.end - x.start) inv.same in
    let f = stepped old new c.force_step.result e.steps in
    let end = done (seen_of was) (seen_of old) (seen_of new) inv.calls inv.same c.in_ok-force_step.field-0 c.in_default.not-More c.in_ok-force_step.ensures.steps in
    record {
      on = e.on;
      start = f.start ∙ start;
      end = f.end ∙ ap (λ (x : LogSeen). x.end) inv.same;
      log = end.0;
      alone = c.in_ok-force_step.ensures.alone end.1;
      quiet = c.in_ok-force_step.ensures.cause.quiet refl ∙ inv.faults;
      moments = frame_more D g.met.D.Device.only_now (area_start was) (area_size was) o m n (area_start old) (area_size old) start size inv.moments inv.elsewhere e.within.time e.within.elsewhere;
      scans = scans_more D o m n (area_start was) (area_start old) (area_end was) (area_end old) (durable_batches was) (durable_batches old) (in_flight was) (coming old)
          start (ap (λ (x : LogSeen). x.end) inv.same) (ap (λ (x : LogSeen). x.batches) inv.same) (coming-in_flight old inv.calls ∙ ap (λ (x : LogSeen). x.flight) inv.same) inv.scans e.moments;
      elsewhere = follows_more (D.may_leave o) (D.may_leave m) (D.may_leave n) (area_start was) (area_size was) (area_start old) (area_size old) start size inv.elsewhere e.within.elsewhere;
      rest = torn_more (D.seen o) (D.seen m) (D.seen n) (area_start was) (area_size was) (area_start old) (area_size old) start size inv.rest e.within.rest;
      cause = λ is. absurd (cc);
      only_device = tt;
    }

pub returns-in_err-force_step : goal.returns-in_err-force_step
returns-in_err-force_step g c =
    let inv = c.loop.invariant in
    let e = c.force_step.ensures in
    let old = c.loop.log in
    let was = c.args.log.now in
    let D = g.D.Device in
    let o = c.args.device.now in let m = c.loop.device in let n = c.force_step.new.device in
    let start = ap (λ (x : LogSeen). x.start) inv.same in
    let size = ap (λ (x : LogSeen). x.end - x.start) inv.same in
    let f = stepped old c.force_step.new.self c.force_step.result e.steps in
    record {
      on = search rules;
      start = f.start ∙ start;
      end = f.end ∙ ap (λ (x : LogSeen). x.end) inv.same;
      log = search rules;
      alone = search rules;
      quiet = search rules;
      moments = frame_more D g.met.D.Device.only_now (area_start was) (area_size was) o m n (area_start old) (area_size old) start size inv.moments inv.elsewhere e.within.time e.within.elsewhere;
      scans = scans_more D o m n (area_start was) (area_start old) (area_end was) (area_end old) (durable_batches was) (durable_batches old) (in_flight was) (coming old)
          start (ap (λ (x : LogSeen). x.end) inv.same) (ap (λ (x : LogSeen). x.batches) inv.same) (coming-in_flight old inv.calls ∙ ap (λ (x : LogSeen). x.flight) inv.same) inv.scans e.moments;
      elsewhere = follows_more (D.may_leave o) (D.may_leave m) (D.may_leave n) (area_start was) (area_size was) (area_start old) (area_size old) start size inv.elsewhere e.within.elsewhere;
      rest = torn_more (D.seen o) (D.seen m) (D.seen n) (area_start was) (area_size was) (area_start old) (area_size old) start size inv.rest e.within.rest;
      cause = λ is. ⊎_elim (λ more. let same = inv.faults in omega (arith, more, same)) (λ was. absurd (one_outcome _ was inv.well)) (c.in_err-force_step.ensures.cause.cause refl);
      only_device = search rules;
    }
