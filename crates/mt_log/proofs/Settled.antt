-- What a force has come to after a device call, and what it has kept.
use Rattle.std.proofs.Common.{◌≡◌, inl, inr, ℕ, ◌+◌, ◌<◌, List, [], ◌∷◌, ◌++◌, length, refl, sym, ◌∙◌, ap, subst, arith, map, append_assoc, append-nil, Result, Ok, Err, OnOk, OnErr, IsErr}
use Rattle.mt_base.specs.declared.refusal.Refusal.{Refusal}
use Rattle.mt_frame.specs.declared.records.Record.{Record}
use Rattle.mt_frame.specs.Grammar.{body_text}
use Rattle.mt_log.specs.Batch.{joined}
use Rattle.mt_log.specs.Area.{Area, AreaAfter, ScansWithOrWithout, step_behind}
use Rattle.mt_log.specs.Forcing.{IsCall}
use Rattle.mt_log.specs.Words.{calls_after, AreaOf, batch_of}
use Rattle.mt_log.specs.declared.log.Log.{Log}
use Rattle.mt_log.specs.declared.log.Forced.{Forced}
use Rattle.mt_log.specs.declared.log.Forced.TheVariants.{More, Durable, Idle as Nothing}
use Rattle.mt_log.specs.declared.stage.Step.{Step}
use Rattle.mt_log.specs.declared.stage.Step.TheVariants.{WriteBody, SyncBody, WriteGate, SyncGate}
use Rattle.mt_log.specs.declared.stage.Stage.{Stage}
use Rattle.mt_log.specs.declared.stage.Stage.TheVariants.{Idle, Forcing, Failed}
use Rattle.mt_log.proofs.Steps.{leaves}
use Rattle.mt_log.proofs.Calls.{batches_push}

no_err : (x : Forced) → IsErr {T = Forced} {E = Refusal} (Ok x) → ⊥
no_err x is = cc

pub of_ok : {A T E : Type 0} (r : Result T E) → (IsErr r → ⊥) → OnOk r A → A
of_ok (Ok x) not a = a
of_ok (Err e) not a = absurd (not refl)

pub of_err : {A T E : Type 0} (r : Result T E) → IsErr r → OnErr r A → A
of_err (Ok x) is a = absurd (cc)
of_err (Err e) is a = a

abbrev pub batches_in : Log → List (List Record)
batches_in log = map (λ batch. batch.items) log.batches.items

pub after_step : (seen : List ℕ) (may : List ℕ → Type 0) (start end next : ℕ) (bs : List (List Record)) (b : List Record) (step : Step) → (step ≡ SyncGate → ⊥) → AreaAfter step seen may start end next bs b → Area seen may start end next bs b (Forcing (step_behind step))
after_step seen may start end next bs b WriteBody not a = a
after_step seen may start end next bs b SyncBody not a = a
after_step seen may start end next bs b WriteGate not a = a
after_step seen may start end next bs b SyncGate not a = absurd (not refl)

-- a crash after the call
pub leaves_after : (seen : List ℕ) (may : List ℕ → Type 0) (start end next : ℕ) (bs : List (List Record)) (b : List Record) (step : Step) → AreaAfter step seen may start end next bs b → (c : List ℕ) → may c → ScansWithOrWithout start end bs b c
leaves_after seen may start end next bs b WriteBody a c left = leaves seen may start end next bs b (Forcing SyncBody) a c left
leaves_after seen may start end next bs b SyncBody a c left = leaves seen may start end next bs b (Forcing WriteGate) a c left
leaves_after seen may start end next bs b WriteGate a c left = leaves seen may start end next bs b (Forcing SyncGate) a c left
leaves_after seen may start end next bs b SyncGate a c left = inr (next + 5 + length (body_text b), a.front c left, a.room, a.outcome c left)

pub leaves_either : {T E : Type 0} (done : Result T E) (seen : List ℕ) (may : List ℕ → Type 0) (start end next : ℕ) (bs : List (List Record)) (b : List Record) (step : Step) → OnOk done (AreaAfter step seen may start end next bs b) → OnErr done (Area seen may start end next bs b Failed)
    → (c : List ℕ) → may c → ScansWithOrWithout start end bs b c
leaves_either (Ok x) seen may start end next bs b step good bad c left = leaves_after seen may start end next bs b step good c left
leaves_either (Err e) seen may start end next bs b step good bad c left = leaves seen may start end next bs b Failed bad c left

-- a crash before any call, where a batch is to come
pub leaves_coming : (seen : List ℕ) (may : List ℕ → Type 0) (start end next : ℕ) (bs : List (List Record)) (b w : List Record) (stage : Stage) → Area seen may start end next bs b stage → (c : List ℕ) → may c → ScansWithOrWithout start end bs (batch_of stage w b) c
leaves_coming seen may start end next bs b w Idle a c left = inl (next, a.front c left, a.room, a.outcome c left)
leaves_coming seen may start end next bs b w (Forcing step) a c left = leaves seen may start end next bs b (Forcing step) a c left
leaves_coming seen may start end next bs b w Failed a c left = leaves seen may start end next bs b Failed a c left

pub same_area : (seen : List ℕ) (may : List ℕ → Type 0) (start start2 end end2 next next2 : ℕ) (bs bs2 : List (List Record)) (b b2 : List Record) (stage stage2 : Stage)
    → start2 ≡ start → end2 ≡ end → next2 ≡ next → bs2 ≡ bs → b2 ≡ b → stage2 ≡ stage → Area seen may start end next bs b stage → Area seen may start2 end2 next2 bs2 b2 stage2
same_area seen may start start2 end end2 next next2 bs bs2 b b2 stage stage2 s e n l f t a =
    subst (λ (x : ℕ). Area seen may x end2 next2 bs2 b2 stage2) (sym s)
    (subst (λ (x : ℕ). Area seen may start x next2 bs2 b2 stage2) (sym e)
    (subst (λ (x : ℕ). Area seen may start end x bs2 b2 stage2) (sym n)
    (subst (λ (x : List (List Record)). Area seen may start end next x b2 stage2) (sym l)
    (subst (λ (x : List Record). Area seen may start end next bs x stage2) (sym f)
    (subst (λ (x : Stage). Area seen may start end next bs b x) (sym t) a)))))

module _ (old new : Log) (step : Step) where
  pub settled : {T E : Type 0} (done : Result T E) (result : Result Forced Refusal) (seen : List ℕ) (may : List ℕ → Type 0)
      → OnOk done (AreaAfter step seen may old.place.start old.place.end old.next (batches_in old) old.in_flight.items)
      → OnErr done (Area seen may old.place.start old.place.end old.next (batches_in old) old.in_flight.items Failed)
      → (IsErr result → IsErr done) → (IsErr done → IsErr result) → IsCall old step result new → old.stage ≡ Forcing step → AreaOf seen may new
  settled done (Ok More) seen may good bad from to call stage =
      let w = call.came in
      let a = of_ok done (λ is. no_err More (to is)) good in
      same_area seen may old.place.start new.place.start old.place.end new.place.end old.next new.next (batches_in old) (batches_in new) old.in_flight.items new.in_flight.items (Forcing (step_behind step)) new.stage
      (ap (λ p. p.start) call.place) (ap (λ p. p.end) call.place) w.next (ap (λ h. map (λ batch. batch.items) h.items) w.batches) (ap (λ h. h.items) w.in_flight) w.stage
      (after_step seen may old.place.start old.place.end old.next (batches_in old) old.in_flight.items step w.not_last a)
  settled done (Ok (Durable pos)) seen may good bad from to call stage =
      let w = call.came in
      let a = of_ok done (λ is. no_err (Durable pos) (to is)) good in
      let behind = (old.under_way (λ is. cc)).place in
      let more : batches_in new ≡ batches_in old ++ old.in_flight.items ∷ [] = ap (λ l. map (λ batch. batch.items) l) w.batches ∙ batches_push old.batches.items old.in_flight in
      same_area seen may old.place.start new.place.start old.place.end new.place.end (old.next + 5 + length (body_text old.in_flight.items)) new.next (batches_in old ++ old.in_flight.items ∷ []) (batches_in new) [] new.in_flight.items Idle new.stage
      (ap (λ p. p.start) call.place) (ap (λ p. p.end) call.place) (w.next ∙ behind) more w.in_flight w.stage
      (subst (λ (x : Step). AreaAfter x seen may old.place.start old.place.end old.next (batches_in old) old.in_flight.items) w.last a)
  settled done (Ok Nothing) seen may good bad from to call stage = absurd call.came
  settled done (Err e) seen may good bad from to call stage =
      let a = of_err done (from refl) bad in
      let w = call.came in
      same_area seen may old.place.start new.place.start old.place.end new.place.end old.next new.next (batches_in old) (batches_in new) old.in_flight.items new.in_flight.items Failed new.stage
      (ap (λ p. p.start) call.place) (ap (λ p. p.end) call.place) w.next (ap (λ h. map (λ batch. batch.items) h.items) w.batches) (ap (λ h. h.items) w.in_flight) w.stage a

pub joined_push : (bs : List (List Record)) (b : List Record) → joined (bs ++ b ∷ []) ≡ joined bs ++ b
joined_push [] b = append-nil b
joined_push (x ∷ bs) b = ap (λ (l : List Record). x ++ l) (joined_push bs b) ∙ sym (append_assoc x (joined bs) b)

pub more_left : (step : Step) → calls_after (Forcing step) ≡ 0 → ⊥
more_left WriteBody is = cc
more_left SyncBody is = cc
more_left WriteGate is = cc
more_left SyncGate is = cc

pub step_fewer : (step : Step) → (step ≡ SyncGate → ⊥) → (calls_after (Forcing (step_behind step)) + 1 ≡ calls_after (Forcing step)) × (0 < calls_after (Forcing (step_behind step)))
step_fewer WriteBody not = (refl, omega arith)
step_fewer SyncBody not = (refl, omega arith)
step_fewer WriteGate not = (refl, omega arith)
step_fewer SyncGate not = absurd (not refl)
