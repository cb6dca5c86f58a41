-- Events one after the other, whatever stands.
use Rattle.std.proofs.Common.{◌≡◌, ◌<◌, suc, ℕ, true, List, [], ◌∷◌, ◌++◌, length, map, take, get_or, Some, None, ap, sym, subst, ◌∙◌, append_assoc}
use Rattle.std.proofs.lemmas.List.{map-append}
use Rattle.std.proofs.Math.Seq.{take-suc}
use mathlib.Core.Logic.{∥∥₁_elim, ∥∥₁_map, ∥∥₁_prop}
use Rattle.mt_base.specs.declared.refusal.Refusal.TheVariants as refusal
use Rattle.mt_disk.specs.declared.device.Device.{Ghosts}
use Rattle.mt_live.proofs.Shapes.{each_map}
use Rattle.mt_live.specs.Machine.{start}
use Rattle.mt_live.specs.Sound.{Each}
use Rattle.mt_model.specs.Model.{Base}
use Rattle.mt_restart.proofs.EarlyCauses.{early_failed}
use Rattle.mt_restart.specs.Rotated.{early_cause}
use Rattle.mt_txn.specs.Shown.{Restarts, Shows, is_failed}
use Rattle.mt_txn.specs.declared.kernel.Kernel.{Kernel}
use Rattle.mt_world.proofs.CrashLemmas.{Found, found_more, found_none, found_until}
use Rattle.mt_world.proofs.RunLemmas.{Ran, has_run, makes_broken, ran_more, ran_none, stay_more}
use Rattle.mt_world.specs.Crashes.{FindsSince, FoundTo, FoundUntilEnd}
use Rattle.mt_world.specs.Due.{IsBroken, StayBroken}
use Rattle.mt_world.specs.Schedules.{GoesTo, HasEndedBy, HasRun, HasRunTo, IsOfSchema}
use Rattle.mt_world.specs.declared.events.Answer.{Answer}
use Rattle.mt_world.specs.declared.events.Answer.TheVariants.{Refused}
use Rattle.mt_world.specs.declared.events.Event.{Event}
use Rattle.mt_world.specs.declared.events.Event.TheVariants.{Rotate}
use Rattle.mt_restart.specs.declared.standing.Standing.{Standing}
use Rattle.mt_restart.specs.declared.standing.Standing.TheVariants.{Stands, Ended}

each_of : (P : Answer → Type 0) → ((x : Answer) → P x) → (xs : List Answer) → Each P xs
each_of P all [] = tt
each_of P all (x ∷ xs) = (all x, each_of P all xs)

module _ {D : Type 0} (g : Ghosts D) (only_now : (d : D) (c : List ℕ) → g.left_since d (g.moment d) c → g.may_leave d c) where
  -- the schema stays
  pub schema_more : (relations counters : ℕ) (standing next : Standing D g) (event : Event) (answer : Answer) → GoesTo standing event answer next → IsOfSchema relations counters standing → IsOfSchema relations counters next
  schema_more relations counters (Stands k) (Stands n) event answer made is = (made.schema.0 ∙ is.0, made.schema.1 ∙ is.1)
  schema_more relations counters (Stands k) (Ended device) event answer made is = tt
  schema_more relations counters (Ended device) next event answer goes is = subst (IsOfSchema relations counters) (sym goes.1) tt

  module _ (relations counters : ℕ) (since : D) (first : Base) where
    -- the events so far have led to this kernel
    pub record RunsOn (events : List Event) (answers : List Answer) (n : Kernel D g) : Type 0 where
      pub ran : Ran first events answers n
      pub starts : Restarts first n
      pub found : Found only_now since first events answers n
      pub schema : (n.relations ≡ relations) × (n.counters ≡ counters)

    abbrev pub EndsAs : List Event → List Answer → D → Type 0
    EndsAs events answers device = FoundUntilEnd g relations counters since first events answers device

    -- or to what is left of one
    abbrev pub RunsTo : List Event → List Answer → Standing D g → Type 0
    RunsTo events answers (Stands n) = RunsOn events answers n
    RunsTo events answers (Ended device) = ∥ EndsAs events answers device ∥₁

    pub runs_none : (k : Kernel D g) → Shows first (start first) k → Restarts first k → FindsSince since first k → (k.relations ≡ relations) × (k.counters ≡ counters) → RunsTo [] [] (Stands k)
    runs_none k shows starts finds schema = record {
      ran = ran_none first k shows;
      starts = starts;
      found = found_none only_now since first k shows starts finds k.schema;
      schema = schema;
    }

    -- after answers of a kernel that has not failed, any other comes
    unbroken : (events : List Event) (answers : List Answer) (answer : Answer) (k : Kernel D g) → early_cause k ≡ None → HasRun first events answers k → StayBroken (answers ++ answer ∷ [])
    unbroken events answers answer k may run =
        stay_more answers answer run.broken
        (each_map (λ x. IsBroken x → is_failed k ≡ true) (λ x. IsBroken x → IsBroken answer)
        (λ x before broken. absurd (let failed = early_failed k (before broken) in let wrong : Some refusal.DeviceFailed ≡ None = sym failed ∙ may in cc)) answers (makes_broken first events answers run.acts run.state k run.made).1)

    ends : (events : List Event) (answers : List Answer) (k : Kernel D g) (event : Event) (answer : Answer) (device : D) → RunsOn events answers k → HasEndedBy k event answer device → ∥ EndsAs (events ++ event ∷ []) (answers ++ answer ∷ []) device ∥₁
    ends events answers k event answer device runs by =
        ∥∥₁_elim (has_run first events answers k runs.ran runs.starts) ∥∥₁_prop (λ run.
        ∥∥₁_map runs.found (λ found. record {
          ended = record {
            done = events;
            later = [];
            outcome = answers;
            kernel = k;
            events_are = ap (λ (e : Event). events ++ e ∷ []) by.rotation;
            answers_are = ap (λ (a : Answer). answers ++ a ∷ []) by.refused;
            ran = run;
            schema = runs.schema;
            ended = by.ended;
            broken = unbroken events answers answer k by.ended.may run;
          };
          until = found_until only_now since first events answers k device (by.found first runs.starts) found;
        }))

    refuses : (events : List Event) (answers : List Answer) (event : Event) (answer : Answer) (device : D) → answer ≡ Refused refusal.DeviceFailed → EndsAs events answers device → EndsAs (events ++ event ∷ []) (answers ++ answer ∷ []) device
    refuses events answers event answer device is f =
        let e = f.ended in
        let c : Event → Answer = λ (x : Event). Refused refusal.DeviceFailed in
        record {
          ended = record {
            done = e.done;
            later = e.later ++ event ∷ [];
            outcome = e.outcome;
            kernel = e.kernel;
            events_are = ap (λ (es : List Event). es ++ event ∷ []) e.events_are ∙ append_assoc e.done (Rotate ∷ e.later) (event ∷ []);
            answers_are = ap (λ (as' : List Answer). as' ++ answer ∷ []) e.answers_are ∙ append_assoc e.outcome (Refused refusal.DeviceFailed ∷ map c e.later) (answer ∷ [])
                ∙ ap (λ (a : Answer). e.outcome ++ Refused refusal.DeviceFailed ∷ (map c e.later ++ a ∷ [])) is ∙ ap (λ (as' : List Answer). e.outcome ++ Refused refusal.DeviceFailed ∷ as') (sym (map-append c e.later (event ∷ [])));
            ran = e.ran;
            schema = e.schema;
            ended = e.ended;
            broken = stay_more answers answer e.broken (each_of (λ x. IsBroken x → IsBroken answer) (λ x broken. is) answers);
          };
          until = f.until;
        }

    pub runs_more : (events : List Event) (answers : List Answer) (standing next : Standing D g) (event : Event) (answer : Answer) → GoesTo standing event answer next → RunsTo events answers standing → RunsTo (events ++ event ∷ []) (answers ++ answer ∷ []) next
    runs_more events answers (Stands k) (Stands n) event answer made runs =
        let ran = ran_more first events answers k n event answer made runs.starts runs.ran in
        record {
          ran = ran;
          starts = made.restarts first runs.starts;
          found = found_more only_now since first events answers event answer k n made runs.starts k.schema n.schema ran runs.found;
          schema = (made.schema.0 ∙ runs.schema.0, made.schema.1 ∙ runs.schema.1);
        }
    runs_more events answers (Stands k) (Ended device) event answer by runs = ends events answers k event answer device runs by
    runs_more events answers (Ended device) next event answer goes runs =
        subst (RunsTo (events ++ event ∷ []) (answers ++ answer ∷ [])) (sym goes.1) (∥∥₁_map runs (refuses events answers event answer device goes.0))

    pub runs_next : (events : List Event) (i : ℕ) (answers : List Answer) (standing next : Standing D g) (event : Event) (answer : Answer) → i < length events → event ≡ get_or events i event → GoesTo standing event answer next
        → RunsTo (take i events) answers standing → RunsTo (take (suc i) events) (answers ++ answer ∷ []) next
    runs_next events i answers standing next event answer lt is goes runs =
        let all : take i events ++ event ∷ [] ≡ take (suc i) events = ap (λ (e : Event). take i events ++ e ∷ []) is ∙ sym (take-suc events i event lt) in
        subst (λ (es : List Event). RunsTo es (answers ++ answer ∷ []) next) all (runs_more (take i events) answers standing next event answer goes runs)

    pub has_run_to : (events : List Event) (answers : List Answer) (standing : Standing D g) → RunsTo events answers standing → ∥ HasRunTo relations counters first events answers standing ∥₁
    has_run_to events answers (Stands n) runs = has_run first events answers n runs.ran runs.starts
    has_run_to events answers (Ended device) runs = ∥∥₁_map runs (λ f. f.ended)

    pub found_to : (events : List Event) (answers : List Answer) (standing : Standing D g) → RunsTo events answers standing → ∥ FoundTo relations counters since first events answers standing ∥₁
    found_to events answers (Stands n) runs = runs.found
    found_to events answers (Ended device) runs = runs
