-- What a restart finds in what a crash leaves of a run that was stopped.
use Rattle.std.specs.Prelude.{◌+◌, ◌-◌, ◌^◌, min, IfOk, Result, Ok, Err}
use Rattle.std.proofs.Common.{◌≡◌, ◌<◌, ◌≤◌, ⊎_elim, ℕ, List, [], ◌∷◌, ◌++◌, length, map, take, refl, ap, ap₂, sym, subst, ◌∙◌, append_assoc, append-nil, length-append, arith}
use Rattle.std.proofs.lemmas.Bool.{cases_lt}
use Rattle.std.proofs.lemmas.List.{length-map, take_all}
use Rattle.std.proofs.Props.{props}
use mathlib.Core.Logic.{∥∥₁_elim, ∥∥₁_map, ∥∥₁_prop}
use Rattle.mt_base.specs.declared.refusal.Refusal.{Refusal}
use Rattle.mt_base.specs.declared.refusal.Refusal.TheVariants as refusal
use Rattle.mt_disk.specs.LeftBy.{LeftBy}
use Rattle.mt_disk.specs.Memory.{MayLeave}
use Rattle.mt_disk.specs.declared.device.Device.{Ghosts}
use Rattle.mt_disk.specs.declared.memory.Fill.{Fill}
use Rattle.mt_disk.specs.declared.memory.MemDevice.{MemDevice}
use Rattle.mt_core.specs.Booked.{txns_of}
use Rattle.mt_model.specs.History.{after}
use Rattle.mt_model.specs.Model.{Base}
use Rattle.mt_model.specs.declared.history.Committed.{Committed}
use Rattle.mt_replay.specs.Stands.{CanRestart}
use Rattle.mt_format.specs.Schemas.{counters_in, relations_in, schema_base}
use Rattle.mt_format.specs.declared.schema.Schema.{Schema}
use Rattle.mt_txn.specs.Restarted.{FindsCommits, all_commits}
use Rattle.mt_txn.specs.declared.kernel.Kernel.{Kernel}
use Rattle.mt_world.proofs.CrashLemmas.{answered_of}
use Rattle.mt_world.proofs.RunLemmas.{makes_same}
use Rattle.mt_world.specs.Crashes.{FoundFromFormat, FoundUntil}
use Rattle.mt_world.specs.Schedules.{HasEnded, HasRun, HasRunTo, IsOfSchema}
use Rattle.mt_restart.specs.Standings.{device_at}
use Rattle.mt_world.specs.Stopped.{BeginsWithin, FindsFirst, IsCrashRun, IsStoppedRun}
use Rattle.mt_world.specs.Stopping.{StopsAt, below}
use Rattle.mt_world.specs.Reported.{Reported, acknowledged, commit_of, commit_order, committing, named, nothing_reported, started_by, with_answer, reported_from, reported_of}
use Rattle.mt_world.specs.declared.crash.CrashRun.{CrashRun}
use Rattle.mt_world.specs.declared.events.Answer.{Answer}
use Rattle.mt_world.specs.declared.events.Answer.TheVariants.{Refused}
use Rattle.mt_world.specs.declared.events.Event.{Event}
use Rattle.mt_world.specs.declared.events.Event.TheVariants.{Begin, Call, Step, Commit, AbortBegin, AbortStep, Back, BackStep, Force, Flush, Rotate}
use Rattle.mt_restart.specs.declared.standing.Standing.{Standing}
use Rattle.mt_restart.specs.declared.standing.Standing.TheVariants.{Stands, Ended}
use Rattle.mt_world.specs.declared.stopping_device.StoppingDevice.{StoppingDevice}
use Rattle.mt_txn.specs.Shown.{kernel_device}

-- ---- what a refused event says

refused_same : (t : ℕ) (x : Reported) (event : Event) (why : Refusal) → with_answer t x event (Refused why) ≡ x
refused_same t x (Begin session) why = refl
refused_same t x (Call u op) why = refl
refused_same t x (Step u) why = refl
refused_same t x (Commit u) why = refl
refused_same t x (AbortBegin u) why = refl
refused_same t x (AbortStep u) why = refl
refused_same t x (Back u first) why = refl
refused_same t x (BackStep u) why = refl
refused_same t x Force why = refl
refused_same t x Flush why = refl
refused_same t x Rotate why = refl

refused_starts : (event : Event) (why : Refusal) → started_by event (Refused why) ≡ []
refused_starts (Begin session) why = refl
refused_starts (Call u op) why = refl
refused_starts (Step u) why = refl
refused_starts (Commit u) why = refl
refused_starts (AbortBegin u) why = refl
refused_starts (AbortStep u) why = refl
refused_starts (Back u first) why = refl
refused_starts (BackStep u) why = refl
refused_starts Force why = refl
refused_starts Flush why = refl
refused_starts Rotate why = refl

abbrev all_refused : List Event → List Answer
all_refused events = map (λ (event : Event). Refused refusal.DeviceFailed) events

reported_behind : (t : ℕ) (x : Reported) (later : List Event) → reported_from t x later (all_refused later) ≡ x
reported_behind t x [] = refl
reported_behind t x (event ∷ later) = ap (λ (y : Reported). reported_from t y later (all_refused later)) (refused_same t x event refusal.DeviceFailed) ∙ reported_behind t x later

committing_behind : (later : List Event) → committing later (all_refused later) ≡ []
committing_behind [] = refl
committing_behind (event ∷ later) = ap (λ (ts : List ℕ). ts ++ committing later (all_refused later)) (refused_starts event refusal.DeviceFailed) ∙ committing_behind later

acknowledged_behind : (later : List Event) → acknowledged (all_refused later) ≡ []
acknowledged_behind [] = refl
acknowledged_behind (event ∷ later) = acknowledged_behind later

-- ---- events, and more after them

reported_both : (t : ℕ) (x : Reported) (events more : List Event) (answers outcome : List Answer) → length events ≡ length answers → reported_from t x (events ++ more) (answers ++ outcome) ≡ reported_from t (reported_from t x events answers) more outcome
reported_both t x [] more [] outcome same = refl
reported_both t x [] more (a ∷ answers) outcome same = absurd (omega arith)
reported_both t x (e ∷ events) more [] outcome same = absurd (omega arith)
reported_both t x (e ∷ events) more (a ∷ answers) outcome same = reported_both t (with_answer t x e a) events more answers outcome (omega arith)

committing_both : (events more : List Event) (answers outcome : List Answer) → length events ≡ length answers → committing (events ++ more) (answers ++ outcome) ≡ committing events answers ++ committing more outcome
committing_both [] more [] outcome same = refl
committing_both [] more (a ∷ answers) outcome same = absurd (omega arith)
committing_both (e ∷ events) more [] outcome same = absurd (omega arith)
committing_both (e ∷ events) more (a ∷ answers) outcome same =
    ap (λ (ts : List ℕ). started_by e a ++ ts) (committing_both events more answers outcome (omega arith)) ∙ sym (append_assoc (started_by e a) (committing events answers) (committing more outcome))

acknowledged_both : (answers outcome : List Answer) → acknowledged (answers ++ outcome) ≡ acknowledged answers ++ acknowledged outcome
acknowledged_both [] outcome = refl
acknowledged_both (a ∷ answers) outcome = ap (λ (ts : List ℕ). named a ++ ts) (acknowledged_both answers outcome) ∙ sym (append_assoc (named a) (acknowledged answers) (acknowledged outcome))

module _ {D : Type 0} {g : Ghosts D} (relations counters : ℕ) (first : Base) (events : List Event) (answers : List Answer) where
  -- ---- where a rotation has ended the kernel

  module _ (device : D) (e : HasEnded g relations counters first events answers device) where
    done_same : length e.done ≡ length e.outcome
    done_same = makes_same first e.done e.outcome e.ran.acts e.ran.state e.kernel e.ran.made

    ended_same : length events ≡ length answers
    ended_same =
        let one = ap (λ (es : List Event). length es) e.events_are in let two = ap (λ (as' : List Answer). length as') e.answers_are in
        let front = length-append e.done (Rotate ∷ e.later) in let back = length-append e.outcome (Refused refusal.DeviceFailed ∷ all_refused e.later) in
        let size = length-map e.later (λ (event : Event). Refused refusal.DeviceFailed) in let same = done_same in
        omega (arith, one, two, front, back, size, same)

    ended_reported : (t : ℕ) → reported_of events answers t ≡ reported_of e.done e.outcome t
    ended_reported t =
        ap₂ (λ (es : List Event) (as' : List Answer). reported_of es as' t) e.events_are e.answers_are
        ∙ reported_both t nothing_reported e.done (Rotate ∷ e.later) e.outcome (Refused refusal.DeviceFailed ∷ all_refused e.later) done_same
        ∙ reported_behind t (reported_of e.done e.outcome t) e.later

    ended_committing : committing events answers ≡ committing e.done e.outcome
    ended_committing =
        ap₂ committing e.events_are e.answers_are
        ∙ committing_both e.done (Rotate ∷ e.later) e.outcome (Refused refusal.DeviceFailed ∷ all_refused e.later) done_same
        ∙ ap (λ (ts : List ℕ). committing e.done e.outcome ++ ts) (committing_behind e.later) ∙ append-nil (committing e.done e.outcome)

    ended_order : commit_order events answers ≡ commit_order e.done e.outcome
    ended_order =
        ap (λ (f : ℕ → Committed). map f (committing events answers)) (λ i t. commit_of (ended_reported t i))
        ∙ ap (λ (ts : List ℕ). map (λ t. commit_of (reported_of e.done e.outcome t)) ts) ended_committing

    ended_acknowledged : acknowledged answers ≡ acknowledged e.outcome
    ended_acknowledged =
        ap acknowledged e.answers_are ∙ acknowledged_both e.outcome (Refused refusal.DeviceFailed ∷ all_refused e.later)
        ∙ ap (λ (ts : List ℕ). acknowledged e.outcome ++ ts) (acknowledged_behind e.later) ∙ append-nil (acknowledged e.outcome)

  pub same_length : (standing : Standing D g) → ∥ HasRunTo relations counters first events answers standing ∥₁ → length answers ≡ length events
  same_length (Stands n) ran = ∥∥₁_elim ran (hlevel props) (λ r. sym (makes_same first events answers r.acts r.state n r.made))
  same_length (Ended device) ran = ∥∥₁_elim ran (hlevel props) (λ e. sym (ended_same device e))

module _ {D : Type 0} {g : Ghosts D} (counts_now : (d : D) (t : ℕ) (c : List ℕ) → t ≤ g.moment d → g.may_leave d c → g.left_since d t c)
    (only_now : (d : D) (c : List ℕ) → g.left_since d (g.moment d) c → g.may_leave d c) (s : Schema) (since : D) where
  -- ---- what a restart finds of a kernel

  module _ (events : List Event) (answers : List Answer) (k : Kernel D g) (run : HasRun (schema_base s) events answers k) (relations_are : k.relations ≡ relations_in s) (counters_are : k.counters ≡ length (counters_in s)) where
    abbrev Finds : List ℕ → Type 0
    Finds c = FindsFirst s (length (acknowledged answers)) (commit_order events answers) c

    few : length (acknowledged answers) ≤ length (commit_order events answers)
    few =
        let all = ap (λ (ts : List ℕ). length ts) run.queue in
        let both = length-append (acknowledged answers) (txns_of k.core.commits.items) in
        let size = length-map (committing events answers) (λ t. commit_of (reported_of events answers t)) in
        omega (arith, all, both, size)

    at_base : (n : ℕ) (c : List ℕ) (b : Base) → b ≡ after (schema_base s) (take n (all_commits k.core)) → CanRestart k.relations k.counters c b → CanRestart (relations_in s) (length (counters_in s)) c (after (schema_base s) (take n (commit_order events answers)))
    at_base n c b is can = subst (λ (X : Type 0). X) (λ i. CanRestart (relations_are i) (counters_are i) c ((is ∙ ap (λ (cs : List Committed). after (schema_base s) (take n cs)) run.order) i)) can

    first_some : (c : List ℕ) → FindsCommits k.relations k.counters (schema_base s) k.core c → Finds c
    first_some c f =
        let order = commit_order events answers in
        let book = answered_of only_now since (schema_base s) events answers k ∣ run ∣₁ in
        let least = f.acknowledged in
        ⊎_elim
        (λ (less : f.count < length order). record {
          count = f.count;
          past = omega (arith, book, least);
          within = omega (arith, less);
          finds = at_base f.count c f.base f.is f.found;
        })
        (λ (ge : length order ≤ f.count). record {
          count = length order;
          past = few;
          within = omega arith;
          finds = subst (λ (cs : List Committed). CanRestart (relations_in s) (length (counters_in s)) c (after (schema_base s) cs)) (take_all f.count order ge ∙ sym (take_all (length order) order (omega arith))) (at_base f.count c f.base f.is f.found);
        })
        (cases_lt f.count (length order))

    pub finds_of : (device : D) → FoundUntil since (schema_base s) events answers k device → (c : List ℕ) → g.may_leave device c → ∥ Finds c ∥₁
    finds_of device u c left =
        let n = length events in
        let then = counts_now device (g.moment (kernel_device (u.behind n))) c (u.later n (omega arith)) left in
        ∥∥₁_map (u.each n c (omega arith) then) (λ f.
        let at : f.made ≡ n = let past = f.past in let within = f.within in omega (arith, past, within) in
        let same : u.behind f.made ≡ k = ap u.behind at ∙ u.last in
        first_some c (subst (λ (m : Kernel D g). FindsCommits m.relations m.counters (schema_base s) m.core c) same f.finds))

module _ {D : Type 0} {g : Ghosts D} (counts_now : (d : D) (t : ℕ) (c : List ℕ) → t ≤ g.moment d → g.may_leave d c → g.left_since d t c)
    (only_now : (d : D) (c : List ℕ) → g.left_since d (g.moment d) c → g.may_leave d c) (s : Schema) (device : D) where
  -- ---- whatever stands

  pub found_first : (events : List Event) (answers : List Answer) (standing : Standing D g) → ∥ HasRunTo (relations_in s) (length (counters_in s)) (schema_base s) events answers standing ∥₁
      → IsOfSchema (relations_in s) (length (counters_in s)) standing → ∥ FoundFromFormat s device events answers standing ∥₁ → (c : List ℕ) → g.may_leave (device_at standing) c
      → ∥ FindsFirst s (length (acknowledged answers)) (commit_order events answers) c ∥₁
  found_first events answers (Stands n) ran schema found c left = ∥∥₁_elim ran ∥∥₁_prop (λ run. ∥∥₁_elim found ∥∥₁_prop (λ f.
      finds_of counts_now only_now s f.formatted events answers n run schema.0 schema.1 (kernel_device n) f.until c left))
  found_first events answers (Ended gone) ran schema found c left = ∥∥₁_elim found ∥∥₁_prop (λ f.
      let e = f.until.ended in
      let acknowledged_are = ended_acknowledged (relations_in s) (length (counters_in s)) (schema_base s) events answers gone e in
      let order_is = ended_order (relations_in s) (length (counters_in s)) (schema_base s) events answers gone e in
      ∥∥₁_map (finds_of counts_now only_now s f.formatted e.done e.outcome e.kernel e.ran e.schema.0 e.schema.1 gone f.until.until c left)
      (λ x. subst (λ (X : Type 0). X) (λ i. FindsFirst s (length (sym acknowledged_are i)) (sym order_is i) c) x))

-- ---- of a device in memory that was stopped

pub stopped_same : {g : Ghosts (StoppingDevice MemDevice)} (s : Schema) (events : List Event) (answers : List Answer) (standing : Standing (StoppingDevice MemDevice) g)
    → ∥ HasRunTo (relations_in s) (length (counters_in s)) (schema_base s) events answers standing ∥₁ → length answers ≡ length events
stopped_same {g = g} s events answers standing ran = same_length (relations_in s) (length (counters_in s)) (schema_base s) events answers standing ran

pub crash_of : {g : Ghosts (StoppingDevice MemDevice)} → ((d : StoppingDevice MemDevice) (t : ℕ) (c : List ℕ) → t ≤ g.moment d → g.may_leave d c → g.left_since d t c) → ((d : StoppingDevice MemDevice) (c : List ℕ) → g.left_since d (g.moment d) c → g.may_leave d c)
    → (s : Schema) (device : StoppingDevice MemDevice) (events : List Event) (answers : List Answer) (standing : Standing (StoppingDevice MemDevice) g) (limit : ℕ) (fill : Fill) (run : CrashRun)
    → ∥ HasRunTo (relations_in s) (length (counters_in s)) (schema_base s) events answers standing ∥₁
    → IsOfSchema (relations_in s) (length (counters_in s)) standing → ∥ FoundFromFormat s device events answers standing ∥₁
    → StopsAt limit (device_at standing) → g.may_leave (device_at standing) run.content.items → MayLeave (below (device_at standing)) run.content.items → LeftBy (below (device_at standing)) fill run.content.items
    → run.order.items ≡ commit_order events answers → run.acked ≡ length (acknowledged answers) → ∥ IsStoppedRun g s events limit fill run ∥₁
crash_of {g = g} counts_now only_now s device events answers standing limit fill run ran schema found stops now may left order acked =
    ∥∥₁_elim ran ∥∥₁_prop (λ r.
    ∥∥₁_map (found_first counts_now only_now s device events answers standing ran schema found run.content.items now) (λ f. record {
      answers = answers;
      standing = standing;
      ran = r;
      stops = stops;
      may = may;
      left = left;
      order = order;
      acked = acked;
      found = subst (λ (X : Type 0). X) (λ i. FindsFirst s (sym acked i) (sym order i) run.content.items) f;
    }))

-- where it takes so many calls more than a format and an opening took
pub counted_run : {g : Ghosts (StoppingDevice MemDevice)} (s : Schema) (events : List Event) (before calls limit : ℕ) (fill : Fill) (result : Result CrashRun Refusal) → limit ≡ min (before + calls) (2 ^ 64 - 1) → ∥ BeginsWithin g s before ∥₁
    → IfOk result (λ run. ∥ IsStoppedRun g s events limit fill run ∥₁) → IfOk result (λ run. ∥ IsCrashRun g s events calls fill run ∥₁)
counted_run {g = g} s events before calls limit fill (Ok run) is begins stopped = ∥∥₁_elim begins ∥∥₁_prop (λ b. ∥∥₁_map stopped (λ r. record {
  before = before;
  begins = b;
  stopped = subst (λ (l : ℕ). IsStoppedRun g s events l fill run) is r;
}))
counted_run s events before calls limit fill (Err why) is begins stopped = stopped
