-- What follows of a step of a force as the log is seen, in the words of callers.
use Rattle.std.proofs.Common.{◌≡◌, inl, inr, ℕ, ◌+◌, ◌-◌, ◌*◌, ◌<◌, ◌≤◌, List, [], ◌∷◌, ◌++◌, length, refl, sym, ◌∙◌, ap, subst, arith, map, length-append, append_assoc, append-nil, true, false, Bool, Result, Ok, Err}
use Rattle.mt_base.specs.declared.refusal.Refusal.{Refusal}
use Rattle.mt_frame.specs.declared.records.Record.{Record}
use Rattle.mt_frame.specs.Grammar.{body_text}
use Rattle.mt_log.specs.Area.{step_behind, gate_behind}
use Rattle.mt_log.specs.Batch.{joined}
use Rattle.mt_log.specs.Forcing.{IsCall, Seals}
use Rattle.mt_log.specs.Seen.{LogSeen, bytes_in, begun, begun_stage, left_waiting, coming_in, landed, calls_after, is_failed, is_still_at, batch_of}
use Rattle.mt_log.specs.Stepped.{Stepped}
use Rattle.mt_log.specs.Steps.{ForceSteps, GoesOn}
use Rattle.mt_log.specs.Words.{seen_of, durable_batches, durable, in_flight, waiting, used, calls_left, has_failed, IsStep, Moves}
use Rattle.mt_log.specs.declared.log.Log.{Log}
use Rattle.mt_log.specs.declared.log.Forced.{Forced}
use Rattle.mt_log.specs.declared.log.Forced.TheVariants.{More, Durable, Idle as Nothing}
use Rattle.mt_log.specs.declared.stage.Step.{Step}
use Rattle.mt_log.specs.declared.stage.Step.TheVariants.{WriteBody, SyncGate}
use Rattle.mt_log.specs.declared.stage.Stage.{Stage}
use Rattle.mt_log.specs.declared.stage.Stage.TheVariants.{Idle, Forcing, Failed}
use Rattle.mt_log.proofs.Calls.{batches_push}
use Rattle.mt_log.proofs.Prefix.{sound_moved}
use Rattle.mt_log.proofs.Settled.{joined_push, more_left, step_fewer}

nothing : (l : List Record) → length l ≡ 0 → l ≡ []
nothing [] is = refl
nothing (x ∷ l) is = absurd (omega arith)

-- ---- that a call is such a step

-- if a force is under way, or has failed, there is nothing to begin
begun_at : (stage : Stage) (it : LogSeen) → it.stage ≡ stage → (stage ≡ Idle → ⊥) → begun it ≡ it
begun_at Idle it is busy = absurd (busy refl)
begun_at (Forcing step) it is busy = ap (λ (x : Stage). record it { flight = batch_of x it.waits it.flight; waits = left_waiting x it.waits; stage = begun_stage x }) is ∙ ap (λ (x : Stage). record it { stage = x }) (sym is)
begun_at Failed it is busy = ap (λ (x : Stage). record it { flight = batch_of x it.waits it.flight; waits = left_waiting x it.waits; stage = begun_stage x }) is ∙ ap (λ (x : Stage). record it { stage = x }) (sym is)

-- so if calls are left
pub begun_busy : (it : LogSeen) → 0 < calls_after it.stage → begun it ≡ it
begun_busy it some = begun_at it.stage it refl (λ idle. let none = ap calls_after idle in omega (arith, some, none))

begun_idle : (it : LogSeen) → it.stage ≡ Idle → begun it ≡ record it { flight = it.waits; waits = []; stage = Forcing WriteBody }
begun_idle it is = ap (λ (x : Stage). record it { flight = batch_of x it.waits it.flight; waits = left_waiting x it.waits; stage = begun_stage x }) is

last_busy : (stage : Stage) → begun_stage stage ≡ Forcing SyncGate → stage ≡ Idle → ⊥
last_busy Idle last is = cc
last_busy (Forcing step) last is = cc
last_busy Failed last is = cc

pub stopped_still : (it : LogSeen) → it.stage ≡ Failed → it ≡ record (begun it) { stage = Failed }
stopped_still it is = ap (λ (x : Stage). record it { stage = x }) is ∙ ap (λ (x : LogSeen). record x { stage = Failed }) (sym (begun_at Failed it is (λ no. cc)))

pub sealed : (old mid : Log) → Seals old mid → old.stage ≡ Idle → begun (seen_of old) ≡ seen_of mid
unfolding seen_of
sealed old mid b is = begun_idle (seen_of old) is ∙ sym (λ i. record {
  start = (b.place i).start;
  end = (b.place i).end;
  gate = b.next i;
  batches = map (λ batch. batch.items) (b.batches i).items;
  flight = b.in_flight i;
  waits = b.waiting i;
  stage = b.stage i;
})

module _ (it : LogSeen) (mid new : Log) (step : Step) (is : begun it ≡ seen_of mid) (stage : mid.stage ≡ Forcing step) (some : it.stage ≡ Idle → 0 < length it.waits) where
  stage_begun : begun_stage it.stage ≡ Forcing step
  unfolding seen_of
  stage_begun = ap (λ (x : LogSeen). x.stage) is ∙ stage

  pub steps_called : (result : Result Forced Refusal) → IsCall mid step result new → ForceSteps it (seen_of new) result
  unfolding seen_of
  steps_called (Ok More) call = let w = call.came in record {
    step = step;
    not_last = w.not_last;
    was = stage_begun;
    some = some;
    now = (λ i. record {
      start = (call.place i).start;
      end = (call.place i).end;
      gate = w.next i;
      batches = map (λ batch. batch.items) (w.batches i).items;
      flight = (w.in_flight i).items;
      waits = (call.waiting i).items;
      stage = w.stage i;
    }) ∙ ap (λ (x : LogSeen). record x { stage = Forcing (step_behind step) }) (sym is);
  }
  steps_called (Ok (Durable at)) call =
      let w = call.came in
      let last : begun_stage it.stage ≡ Forcing SyncGate = stage_begun ∙ ap Forcing w.last in
      let same : begun it ≡ it = begun_at it.stage it refl (last_busy it.stage last) in
      let more : map (λ batch. batch.items) new.batches.items ≡ map (λ batch. batch.items) mid.batches.items ++ mid.in_flight.items ∷ [] = ap (λ l. map (λ batch. batch.items) l) w.batches ∙ batches_push mid.batches.items mid.in_flight in
      let behind = (mid.under_way (λ no. cc)).place in
      record {
        last = sym (ap (λ (x : LogSeen). x.stage) same) ∙ last;
        now = (λ i. record {
          start = (call.place i).start;
          end = (call.place i).end;
          gate = (w.next ∙ behind) i;
          batches = more i;
          flight = w.in_flight i;
          waits = (call.waiting i).items;
          stage = w.stage i;
        }) ∙ ap landed (sym is ∙ same);
        place = w.place ∙ mid.counted_batched ∙ sym (ap (λ (bs : List (List Record)). length (joined bs)) more ∙ ap length (joined_push (map (λ batch. batch.items) mid.batches.items) mid.in_flight.items) ∙ length-append (joined (map (λ batch. batch.items) mid.batches.items)) mid.in_flight.items);
      }
  steps_called (Ok Nothing) call = absurd call.came
  steps_called (Err why) call = let w = call.came in record {
    only_device = w.why;
    some = some;
    now = (λ i. record {
      start = (call.place i).start;
      end = (call.place i).end;
      gate = w.next i;
      batches = map (λ batch. batch.items) (w.batches i).items;
      flight = (w.in_flight i).items;
      waits = (call.waiting i).items;
      stage = w.stage i;
    }) ∙ ap (λ (x : LogSeen). record x { stage = Failed }) (sym is);
  }

busy_begun : (step : Step) (it : LogSeen) → it.stage ≡ Forcing step → begun it ≡ it
busy_begun step it is = begun_at (Forcing step) it is (λ no. cc)

pub steps_on : (old new : Log) (step : Step) (result : Result Forced Refusal) → old.stage ≡ Forcing step → IsCall old step result new → ForceSteps (seen_of old) (seen_of new) result
unfolding seen_of
steps_on old new step result is call = steps_called (seen_of old) old new step (busy_begun step (seen_of old) is) is (λ idle. absurd (let no = sym is ∙ idle in cc)) result call

-- ---- what follows of it

-- what is true of each log, as it is seen
pub record IsSteadyLog (it : LogSeen) : Type 0 where
  pub none : it.stage ≡ Idle → it.flight ≡ []
  pub order : it.stage ≡ Idle → it.start ≤ it.gate

pub steady_log : (log : Log) → IsSteadyLog (seen_of log)
unfolding seen_of
steady_log log = record {
  none = λ is. nothing log.in_flight.items (log.at_rest is).none;
  order = λ is. let at = (log.at_rest is).place in let o = log.in_order in omega arith;
}

-- the records are the same
abbrev all_in : LogSeen → List Record
all_in it = joined it.batches ++ (it.flight ++ it.waits)

begun_all : (stage : Stage) (flight wait : List Record) → (stage ≡ Idle → flight ≡ []) → batch_of stage wait flight ++ left_waiting stage wait ≡ flight ++ wait
begun_all Idle flight wait none = append-nil wait ∙ ap (λ (l : List Record). l ++ wait) (sym (none refl))
begun_all (Forcing step) flight wait none = refl
begun_all Failed flight wait none = refl

landed_all : (bs : List (List Record)) (flight wait : List Record) → joined (bs ++ flight ∷ []) ++ wait ≡ joined bs ++ (flight ++ wait)
landed_all bs flight wait = ap (λ (l : List Record). l ++ wait) (joined_push bs flight) ∙ append_assoc (joined bs) flight wait

-- the bytes in use
begun_bytes : (stage : Stage) (start gate : ℕ) (flight wait : List Record) → (stage ≡ Idle → 0 < length wait) →
    (gate + 5 + length (body_text (batch_of stage wait flight)) - start) + 5 * length (left_waiting stage wait) + length (body_text (left_waiting stage wait)) ≤ (gate_behind stage gate flight - start) + 5 * length wait + length (body_text wait)
begun_bytes Idle start gate flight wait some = let lt = some refl in omega arith
begun_bytes (Forcing step) start gate flight wait some = omega arith
begun_bytes Failed start gate flight wait some = omega arith

shared_bytes : (stage : Stage) (start gate : ℕ) (flight wait : List Record) → (stage ≡ Idle → start ≤ gate) → calls_after stage ≡ 0 → is_failed stage ≡ false →
    (gate + 5 + length (body_text (batch_of stage wait flight)) - start) + 5 * length (left_waiting stage wait) + length (body_text (left_waiting stage wait)) + 5 * length wait ≡ (gate_behind stage gate flight - start) + 5 * length wait + length (body_text wait) + 5
shared_bytes Idle start gate flight wait order none well = let le = order refl in omega arith
shared_bytes (Forcing step) start gate flight wait order none well = absurd (more_left step none)
shared_bytes Failed start gate flight wait order none well = absurd (cc)

less_bytes : (stage : Stage) (start gate : ℕ) (flight wait : List Record) → 0 < calls_after stage →
    (gate + 5 + length (body_text (batch_of stage wait flight)) - start) + 5 * length (left_waiting stage wait) + length (body_text (left_waiting stage wait)) ≡ (gate_behind stage gate flight - start) + 5 * length wait + length (body_text wait)
less_bytes Idle start gate flight wait some = absurd (omega arith)
less_bytes (Forcing step) start gate flight wait some = refl
less_bytes Failed start gate flight wait some = refl

landed_bytes : (stage : Stage) (start gate : ℕ) (flight wait : List Record) → stage ≡ Forcing SyncGate →
    (gate + 5 + length (body_text flight) - start) + 5 * length wait + length (body_text wait) ≡ (gate_behind stage gate flight - start) + 5 * length wait + length (body_text wait)
landed_bytes stage start gate flight wait is = let same = ap (λ (x : Stage). gate_behind x gate flight) is in omega (arith, same)

one_outcome : (b : Bool) → b ≡ true → b ≡ false → ⊥
one_outcome b on off = let apart : true ≡ false = sym on ∙ off in absurd cc

same_coming : (it : LogSeen) (stage : Stage) → it.stage ≡ stage → coming_in it ≡ batch_of stage it.waits it.flight
same_coming it stage is = ap (λ (x : Stage). batch_of x it.waits it.flight) is

same_left : (it : LogSeen) (stage : Stage) → it.stage ≡ stage → left_waiting it.stage it.waits ≡ left_waiting stage it.waits
same_left it stage is = ap (λ (x : Stage). left_waiting x it.waits) is

moves_begun : (stage : Stage) (old new : Log) → (seen_of old).stage ≡ stage → durable new ≡ durable old → in_flight new ≡ coming_in (seen_of old) → waiting new ≡ left_waiting (seen_of old).stage (waiting old)
    → (calls_left new ≡ 0 → has_failed new ≡ true) → Moves old new
moves_begun Idle old new is d f w not = inr (inl (ap calls_after is, d, f ∙ same_coming (seen_of old) Idle is, w ∙ same_left (seen_of old) Idle is, not))
moves_begun (Forcing step) old new is d f w not = inl (d, f ∙ same_coming (seen_of old) (Forcing step) is, w ∙ same_left (seen_of old) (Forcing step) is, λ zero well. absurd (one_outcome (has_failed new) (not zero) well))
moves_begun Failed old new is d f w not = inl (d, f ∙ same_coming (seen_of old) Failed is, w ∙ same_left (seen_of old) Failed is, λ zero well. absurd (one_outcome (has_failed new) (not zero) well))

module _ (old new : Log) where
  some_left : GoesOn (seen_of old) (seen_of new) → 0 < calls_left new
  some_left g = subst (λ (x : Stage). 0 < calls_after x) (sym (ap (λ (x : LogSeen). x.stage) g.now)) (step_fewer g.step g.not_last).1

  step_more : (stage : Stage) → (seen_of old).stage ≡ stage → GoesOn (seen_of old) (seen_of new) → (0 < calls_left old → used new ≡ used old) → IsStep old More new
  step_more Idle is g less =
      let left : calls_left new ≡ calls_after (Forcing (step_behind g.step)) = ap (λ (x : LogSeen). calls_after x.stage) g.now in
      let four : calls_after (begun_stage (seen_of old).stage) ≡ calls_after (Forcing g.step) = ap calls_after g.was in
      let first : calls_after (begun_stage (seen_of old).stage) ≡ 4 = ap (λ (x : Stage). calls_after (begun_stage x)) is in
      let fewer = (step_fewer g.step g.not_last).0 in
      let none : calls_left old ≡ 0 = ap calls_after is in (
        ap (λ (x : LogSeen). joined x.batches) g.now,
        (λ zero. (ap (λ (x : LogSeen). x.flight) g.now ∙ same_coming (seen_of old) Idle is, ap (λ (x : LogSeen). x.waits) g.now ∙ same_left (seen_of old) Idle is, omega (arith, left, four, first, fewer))),
        (λ lt. absurd (omega (arith, lt, none))),
      )
  step_more (Forcing step) is g less =
      let left : calls_left new ≡ calls_after (Forcing (step_behind g.step)) = ap (λ (x : LogSeen). calls_after x.stage) g.now in
      let same : calls_after (begun_stage (seen_of old).stage) ≡ calls_after (Forcing g.step) = ap calls_after g.was in
      let first : calls_after (begun_stage (seen_of old).stage) ≡ calls_after (Forcing step) = ap (λ (x : Stage). calls_after (begun_stage x)) is in
      let now : calls_left old ≡ calls_after (Forcing step) = ap calls_after is in
      let fewer = (step_fewer g.step g.not_last).0 in (
        ap (λ (x : LogSeen). joined x.batches) g.now,
        (λ zero. absurd (more_left step (sym now ∙ zero))),
        (λ lt. (ap (λ (x : LogSeen). x.flight) g.now ∙ same_coming (seen_of old) (Forcing step) is, ap (λ (x : LogSeen). x.waits) g.now ∙ same_left (seen_of old) (Forcing step) is, omega (arith, left, same, first, now, fewer), some_left g, less lt)),
      )
  step_more Failed is g less = absurd (let no : Failed ≡ Forcing g.step = sym (ap begun_stage is) ∙ g.was in cc)

  sound_begun : (stage : Stage) → (seen_of old).stage ≡ stage → ((seen_of old).stage ≡ Idle → in_flight old ≡ []) → in_flight new ≡ coming_in (seen_of old) → waiting new ≡ left_waiting (seen_of old).stage (waiting old) → in_flight new ++ waiting new ≡ in_flight old ++ waiting old
  sound_begun stage is none f w = ap (λ (l : List Record). l ++ waiting new) f ∙ ap (λ (l : List Record). coming_in (seen_of old) ++ l) w ∙ begun_all (seen_of old).stage (in_flight old) (waiting old) none

failed_is_still : (stage : Stage) (waits : List Record) → is_failed stage ≡ true → is_still_at stage waits ≡ true
failed_is_still Idle waits is = absurd (cc)
failed_is_still (Forcing step) waits is = absurd (cc)
failed_is_still Failed waits is = refl

idle_is_still : (stage : Stage) (waits : List Record) → calls_after stage ≡ 0 → waits ≡ [] → is_still_at stage waits ≡ true
idle_is_still Idle [] zero none = refl
idle_is_still Idle (x ∷ waits) zero none = absurd (let is = ap length none in omega (arith, is))
idle_is_still (Forcing step) waits zero none = absurd (more_left step zero)
idle_is_still Failed waits zero none = refl

not_failed : (step : Step) (stage : Stage) → begun_stage stage ≡ Forcing step → is_failed stage ≡ true → ⊥
not_failed step Idle was is = cc
not_failed step (Forcing s) was is = cc
not_failed step Failed was is = cc

pub stepped : (old new : Log) (r : Result Forced Refusal) → ForceSteps (seen_of old) (seen_of new) r → Stepped old new r
unfolding bytes_in
stepped old new (Ok Nothing) f =
    let n = f.still in
    let idle : calls_left old ≡ 0 = ap calls_after f.stage in
    let flight : in_flight old ≡ [] = (steady_log old).none f.stage in
    let bytes : used new ≡ used old = ap bytes_in n in
    record {
      step = (idle, f.none, ap (λ (x : LogSeen). joined x.batches) n, ap (λ (x : LogSeen). x.flight) n ∙ flight, ap (λ (x : LogSeen). x.waits) n ∙ f.none, bytes, ap (λ (x : LogSeen). calls_after x.stage) n ∙ idle);
      batches = ap (λ (x : LogSeen). x.batches) n;
      moves = inl (ap (λ (x : LogSeen). joined x.batches) n, ap (λ (x : LogSeen). x.flight) n, ap (λ (x : LogSeen). x.waits) n, λ zero well. idle);
      same_records = ap all_in n;
      bytes = omega (arith, bytes);
      used_less = λ lt. bytes;
      used_shared = λ zero well lt. absurd (let none = ap length f.none in omega (arith, lt, none));
      start = ap (λ (x : LogSeen). x.start) n;
      end = ap (λ (x : LogSeen). x.end) n;
      area = ap (λ (x : LogSeen). x.end - x.start) n;
      failed = λ is. absurd (one_outcome (has_failed old) is (ap is_failed f.stage));
      now_failed = λ is. absurd (cc);
      well = λ is. ap (λ (x : LogSeen). is_failed x.stage) n ∙ ap is_failed f.stage;
      only_device = tt;
      err_batches = tt;
      err_durable = tt;
      idle = λ is. sym (ap (λ (l : List Record). length (durable old ++ (l ++ waiting old))) flight ∙ ap (λ (l : List Record). length (durable old ++ l)) f.none ∙ ap length (append-nil (durable old)));
      failed_still = failed_is_still (seen_of old).stage (waiting old);
      idle_still = idle_is_still (seen_of old).stage (waiting old);
      sound = λ pages. sound_moved pages old new (inl (ap (λ (x : LogSeen). x.batches) n, ap (λ (x : LogSeen). x.flight ++ x.waits) n));
    }
stepped old new (Ok More) g =
    let n = g.now in
    let it = seen_of old in
    let s = steady_log old in
    let bytes : used new ≡ bytes_in (record (begun it) { stage = Forcing (step_behind g.step) }) = ap bytes_in n in
    let less : 0 < calls_left old → used new ≡ used old = λ lt. bytes ∙ less_bytes it.stage it.start it.gate it.flight it.waits lt in
    let flight : in_flight new ≡ coming_in it = ap (λ (x : LogSeen). x.flight) n in
    let wait : waiting new ≡ left_waiting it.stage it.waits = ap (λ (x : LogSeen). x.waits) n in
    let behind = sound_begun old new it.stage refl s.none flight wait in
    record {
      step = step_more old new it.stage refl g less;
      batches = ap (λ (x : LogSeen). x.batches) n;
      moves = moves_begun it.stage old new refl (ap (λ (x : LogSeen). joined x.batches) n) flight wait (λ zero. absurd (let some = some_left old new g in omega (arith, zero, some)));
      same_records = ap (λ (x : LogSeen). joined x.batches ++ (in_flight new ++ waiting new)) n ∙ ap (λ (l : List Record). durable old ++ l) behind;
      bytes = omega (arith, bytes, begun_bytes it.stage it.start it.gate it.flight it.waits g.some);
      used_less = less;
      used_shared = λ zero well lt. ap (λ (k : ℕ). k + 5 * length (waiting old)) bytes ∙ shared_bytes it.stage it.start it.gate it.flight it.waits s.order zero well;
      start = ap (λ (x : LogSeen). x.start) n;
      end = ap (λ (x : LogSeen). x.end) n;
      area = ap (λ (x : LogSeen). x.end - x.start) n;
      failed = λ is. absurd (not_failed g.step it.stage g.was is);
      now_failed = λ is. absurd (cc);
      well = λ is. ap (λ (x : LogSeen). is_failed x.stage) n;
      only_device = tt;
      err_batches = tt;
      err_durable = tt;
      idle = λ is. absurd (cc);
      failed_still = failed_is_still (seen_of old).stage (waiting old);
      idle_still = idle_is_still (seen_of old).stage (waiting old);
      sound = λ pages. sound_moved pages old new (inl (ap (λ (x : LogSeen). x.batches) n, behind));
    }
stepped old new (Ok (Durable at)) l =
    let n = l.now in
    let it = seen_of old in
    let one : calls_left old ≡ 1 = ap calls_after l.last in
    let first : used new ≡ bytes_in (landed it) = ap bytes_in n in
    let second : bytes_in (landed it) ≡ used old = landed_bytes it.stage it.start it.gate it.flight it.waits l.last in
    let bytes : used new ≡ used old = first ∙ second in
    let more : durable new ≡ durable old ++ in_flight old = ap (λ (x : LogSeen). joined x.batches) n ∙ joined_push it.batches it.flight in
    let rows : durable_batches new ≡ durable_batches old ++ in_flight old ∷ [] = ap (λ (x : LogSeen). x.batches) n in
    let flight : in_flight new ≡ [] = ap (λ (x : LogSeen). x.flight) n in
    let wait : waiting new ≡ waiting old = ap (λ (x : LogSeen). x.waits) n in
    let none : calls_left new ≡ 0 = ap (λ (x : LogSeen). calls_after x.stage) n in
    record {
      step = (one, none, more, flight, wait, bytes, l.place);
      batches = rows;
      moves = inr (inr (none, more, flight, wait));
      same_records = ap all_in n ∙ landed_all it.batches it.flight it.waits;
      bytes = omega (arith, bytes);
      used_less = λ lt. bytes;
      used_shared = λ zero well lt. absurd (omega (arith, one, zero));
      start = ap (λ (x : LogSeen). x.start) n;
      end = ap (λ (x : LogSeen). x.end) n;
      area = ap (λ (x : LogSeen). x.end - x.start) n;
      failed = λ is. absurd (one_outcome (has_failed old) is (ap is_failed l.last));
      now_failed = λ is. absurd (cc);
      well = λ is. ap (λ (x : LogSeen). is_failed x.stage) n;
      only_device = tt;
      err_batches = tt;
      err_durable = tt;
      idle = λ is. absurd (cc);
      failed_still = failed_is_still (seen_of old).stage (waiting old);
      idle_still = idle_is_still (seen_of old).stage (waiting old);
      sound = λ pages. sound_moved pages old new (inr (rows, flight, wait));
    }
stepped old new (Err why) f =
    let n = f.now in
    let it = seen_of old in
    let s = steady_log old in
    let bytes : used new ≡ bytes_in (record (begun it) { stage = Failed }) = ap bytes_in n in
    let flight : in_flight new ≡ coming_in it = ap (λ (x : LogSeen). x.flight) n in
    let wait : waiting new ≡ left_waiting it.stage it.waits = ap (λ (x : LogSeen). x.waits) n in
    let behind = sound_begun old new it.stage refl s.none flight wait in
    let failed : has_failed new ≡ true = ap (λ (x : LogSeen). is_failed x.stage) n in
    record {
      step = tt;
      batches = tt;
      moves = moves_begun it.stage old new refl (ap (λ (x : LogSeen). joined x.batches) n) flight wait (λ zero. failed);
      same_records = ap (λ (x : LogSeen). joined x.batches ++ (in_flight new ++ waiting new)) n ∙ ap (λ (l : List Record). durable old ++ l) behind;
      bytes = omega (arith, bytes, begun_bytes it.stage it.start it.gate it.flight it.waits f.some);
      used_less = λ lt. bytes ∙ less_bytes it.stage it.start it.gate it.flight it.waits lt;
      used_shared = λ zero well lt. ap (λ (k : ℕ). k + 5 * length (waiting old)) bytes ∙ shared_bytes it.stage it.start it.gate it.flight it.waits s.order zero well;
      start = ap (λ (x : LogSeen). x.start) n;
      end = ap (λ (x : LogSeen). x.end) n;
      area = ap (λ (x : LogSeen). x.end - x.start) n;
      failed = λ is. refl;
      now_failed = λ is. failed;
      well = λ is. absurd (cc);
      only_device = f.only_device;
      err_batches = ap (λ (x : LogSeen). x.batches) n;
      err_durable = ap (λ (x : LogSeen). joined x.batches) n;
      idle = λ is. absurd (cc);
      failed_still = failed_is_still (seen_of old).stage (waiting old);
      idle_still = idle_is_still (seen_of old).stage (waiting old);
      sound = λ pages. sound_moved pages old new (inl (ap (λ (x : LogSeen). x.batches) n, behind));
    }
