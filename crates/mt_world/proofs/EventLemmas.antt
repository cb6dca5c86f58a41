-- What an event does, from what its call says.
use Rattle.std.proofs.Common.{◌≡◌, ◌≢◌, ◌+◌, ◌⊎◌, inl, inr, ℕ, Bool, true, false, List, [], Option, Some, None, Result, Ok, Err, refl, ap, sym, subst, ◌∙◌}
use Rattle.std.specs.Prelude.{if◌then◌else◌}
use mathlib.Core.Logic.{∥∥₁_elim, ∥∥₁_map}
use Rattle.std.proofs.Props.{props}
use Rattle.mt_base.specs.declared.refusal.Refusal.{Refusal}
use Rattle.mt_base.specs.declared.refusal.Refusal.TheVariants as refusal
use Rattle.mt_disk.specs.declared.device.Device.{Ghosts}
use Rattle.mt_core.specs.Consistent.{OnlyOperations, SameCommits, SameStates, SameStatesBut, SetsState}
use Rattle.mt_core.specs.Runs.{is_returning, state_in}
use Rattle.mt_core.specs.declared.calls.Called.{Called}
use Rattle.mt_core.specs.declared.calls.Called.TheVariants as call
use Rattle.mt_core.specs.declared.parts.Core.{Core}
use Rattle.mt_live.specs.Machine.{State, begun, called, ended, gone, settled}
use Rattle.mt_live.specs.declared.transactions.TxnState.{TxnState}
use Rattle.mt_live.specs.declared.transactions.TxnState.TheVariants.{Open, Committing as IsCommitting, Aborting as IsAborting, Returning}
use Rattle.mt_model.specs.Model.{Base}
use Rattle.mt_model.specs.declared.operations.Op.{Op}
use Rattle.mt_model.specs.declared.operations.Reply.{Reply}
use Rattle.mt_pool.specs.declared.flushes.Flushed.{Flushed as FlushOutcome}
use Rattle.mt_pool.specs.declared.flushes.Flushed.TheVariants as flush
use Rattle.mt_pool.specs.declared.store.Store.{Store}
use Rattle.mt_txn.proofs.Living.{idle_of}
use Rattle.mt_txn.specs.Causes.{IsRefusedAtOnce, begin_cause, call_cause, first_of, is_busy, is_open, return_cause, unless}
use Rattle.mt_txn.specs.Events.{HasAborted, HasCalled, HasForced, HasReturned, HasStepped, IsAnsweredBy, IsBack, IsReturn}
use Rattle.mt_txn.specs.Events.IsBack.{stands, drops as drops_back, undoes as undoes_back}
use Rattle.mt_txn.specs.Events.IsReturn.{stays as stays_back, returns as returns_back}
use Rattle.mt_txn.specs.Shown.{CallsOnce, FailsForGood, LeavesFound, ReadsDevice, SameSchema, Shows, Stays, StaysRestarting, is_failed, kernel_device}
use Rattle.mt_txn.specs.Words.{kernel_state, kernel_store}
use Rattle.mt_txn.specs.declared.answers.AbortStepped.{AbortStepped}
use Rattle.mt_txn.specs.declared.answers.AbortStepped.TheVariants as abort
use Rattle.mt_txn.specs.declared.answers.KernelForced.{KernelForced}
use Rattle.mt_txn.specs.declared.answers.KernelForced.TheVariants as forced
use Rattle.mt_txn.specs.declared.answers.Stepped.{Stepped as StepOutcome}
use Rattle.mt_txn.specs.declared.answers.Stepped.TheVariants as step
use Rattle.mt_txn.specs.declared.kernel.Kernel.{Kernel}
use Rattle.mt_world.specs.Acts.{Act}
use Rattle.mt_world.specs.Moves.{IsStill, Moves}
use Rattle.mt_world.specs.Moves.IsStill.{is_refused, call_waits, step_went, step_waits, step_again, step_full, abort_went, abort_waits, abort_again, abort_full, return_went, return_waits, return_again, return_full, force_went, force_idle}
use Rattle.mt_world.specs.Moves.Moves.{stays, begins, calls, ends, drops, undoes, aborts, returns, settles, books}
use Rattle.mt_world.specs.Due.{CallsAtEvent, FailsIn, IsAbortStepped, IsBroken, IsCaused, IsDue, IsFlushed, IsReturned, IsStepped, SamePhases, SetsPhases}
use Rattle.mt_world.specs.Schedules.{HasMade}
use Rattle.mt_world.specs.declared.events.Answer.{Answer}
use Rattle.mt_world.specs.declared.events.Answer.TheVariants.{Begun, Called as CalledAs, Stepped, Undone, Returned, Forced, Refused}
use Rattle.mt_world.specs.declared.events.Event.{Event}
use Rattle.mt_world.specs.declared.events.Event.TheVariants.{Begin, Call, Step, AbortStep, BackStep, Force}

-- ---- causes

pub caused : (c : Option Refusal) (why : Refusal) → (why ≢ refusal.NoMemory → c ≡ Some why) → IsCaused c why
caused c refusal.NoMemory cause = inl refl
caused c why cause = inr (cause (λ e. cc))

pub caused_or : {F : Type 0} → (c : Option Refusal) (why : Refusal) → (why ≢ refusal.NoMemory → (c ≡ Some why) ⊎ F) → IsCaused c why ⊎ F
caused_or c refusal.NoMemory cause = inl (inl refl)
caused_or c why cause = by (cause (λ e. cc))
  where
    by : {F : Type 0} → {w : Refusal} → (c ≡ Some w) ⊎ F → IsCaused c w ⊎ F
    by (inl is) = inl (inr is)
    by (inr fault) = inr fault

pub wanting_or : {F : Type 0} → (why : Refusal) → (why ≢ refusal.NoMemory → F) → (why ≡ refusal.NoMemory) ⊎ F
wanting_or refusal.NoMemory cause = inl refl
wanting_or why cause = inr (cause (λ e. cc))

-- a step is not refused only of an open transaction that runs an operation
pub both_hold : (failed opened busy : Bool) → first_of (if failed then Some refusal.DeviceFailed else unless opened refusal.Stranger) (unless busy refusal.Stranger) ≡ None → (opened ≡ true) × (busy ≡ true)
both_hold true opened busy none = absurd cc
both_hold false false busy none = absurd cc
both_hold false true false none = absurd cc
both_hold false true true none = (refl, refl)

pub open_state : (o : Option TxnState) → is_open o ≡ true → o ≡ Some Open
open_state None is = absurd cc
open_state (Some Open) is = refl
open_state (Some IsCommitting) is = absurd cc
open_state (Some IsAborting) is = absurd cc
open_state (Some (Returning n)) is = absurd cc

-- ---- events

-- a step of an abort leads where its answer says
undo_moves : (state : ℕ → Option TxnState) (t : ℕ) (s z : State) → IsBack s t z → (acts : List Act) × Moves state s (AbortStep t) (Undone abort.More) acts z
undo_moves state t s _ stands = ([], stays _ _ (abort_went t))
undo_moves state t s _ (drops_back op ps runs given) = ([], drops t op ps runs given)
undo_moves state t s _ (undoes_back last inverse ps idle effect inverts given) = (_, undoes t last inverse ps idle effect inverts given)

-- a step of going back does too
return_moves : (state : ℕ → Option TxnState) (t first : ℕ) (s z : State) → state t ≡ Some (Returning first) → IsReturn s t first z → (acts : List Act) × Moves state s (BackStep t) (Returned abort.More) acts z
return_moves state t first s _ goes stays_back = ([], stays _ _ (return_went t))
return_moves state t first s _ goes (returns_back last inverse ps idle effect there inverts given) = (_, returns t first last inverse ps goes idle effect there inverts given)

-- it goes back where a step may be made
returning_to : (failed : Bool) (o : Option TxnState) → (if failed then Some refusal.DeviceFailed else unless (is_returning o) refusal.Stranger) ≡ None → (first : ℕ) × (o ≡ Some (Returning first))
returning_to true o none = absurd cc
returning_to false None none = absurd cc
returning_to false (Some Open) none = absurd cc
returning_to false (Some IsCommitting) none = absurd cc
returning_to false (Some IsAborting) none = absurd cc
returning_to false (Some (Returning first)) none = (first, refl)

module _ {D : Type 0} {g : Ghosts D} (k n : Kernel D g) where
  abbrev Found : Type 0
  Found = LeavesFound k n

  abbrev Leads : Base → State → Event → Answer → Type 0
  Leads first s event answer = ∥ ((acts : List Act) × (z : State) × Moves (kernel_state k) s event answer acts z × Shows first z n) ∥₁

  pub still : (event : Event) (answer : Answer) (first : Base) (s : State) → IsStill event answer → Shows first s n → Leads first s event answer
  still event answer first s is shows = ∣ ([], s, stays event answer is, shows) ∣₁

  -- whether the device has failed, of a call's result
  pub fails_ok : {T : Type 0} → (x : T) (answer : Answer) → FailsForGood k (Ok x) n → (IsBroken answer → ⊥) → FailsIn k answer n
  fails_ok {T} x answer fails other = ((λ before. let wrong : ◌≡◌ {A = Result T Refusal} (Ok x) (Err refusal.DeviceFailed) = (fails.0 before).0 in absurd cc), λ broken. absurd (other broken))

  pub fails_err : {T : Type 0} → (why : Refusal) → FailsForGood {T = T} k (Err why) n → FailsIn k (Refused why) n
  fails_err {T} why fails = ((λ before. let all = fails.0 before in let is : ◌≡◌ {A = Result T Refusal} (Err why) (Err refusal.DeviceFailed) = all.0 in (let same : why ≡ refusal.DeviceFailed = cc in ap (λ (w : Refusal). Refused w) same, all.1)), λ broken. let same : why ≡ refusal.DeviceFailed = cc in fails.1 (ap (λ (w : Refusal). Err w) same))

  -- nothing comes of it
  pub still_made : (event : Event) (answer : Answer) → IsStill event answer → Stays k n → IsDue k event answer n → CallsAtEvent k event n → SetsPhases k event answer n → SameSchema k n → FailsIn k answer n → StaysRestarting k n → Found
      → HasMade k event answer n
  still_made event answer is same due device phases schema fails restarts found = record { leads = λ first s starts shows. still event answer first s is (same first s shows); due = due; device = device; phases = phases; fails = fails; restarts = restarts; found = found; schema = schema }

  -- ---- a begin

  pub begin_made : (session txn : ℕ) → txn ≡ k.core.live.begun + 1 → begin_cause (is_failed k) k.core ≡ None → ((first : Base) (s : State) → Shows first s k → Shows first (begun s session) n)
      → CallsAtEvent k (Begin session) n → SetsPhases k (Begin session) (Begun txn) n → SameSchema k n → FailsIn k (Begun txn) n → StaysRestarting k n → Found
      → HasMade k (Begin session) (Begun txn) n
  begin_made session txn number may did device phases schema fails restarts found = record {
    leads = λ first s starts shows. ∣ ([], begun s session, subst (λ (t : ℕ). Moves (kernel_state k) s (Begin session) (Begun t) [] (begun s session)) (next_is first s shows) (begins session), did first s shows) ∣₁;
    due = may;
    device = device;
    phases = phases;
    fails = fails;
    restarts = restarts;
    found = found;
    schema = schema;
  }
    where
      next_is : (first : Base) (s : State) → Shows first s k → s.next ≡ txn
      next_is first s shows = ∥∥₁_elim shows (hlevel props) (λ (origin, base, is, x). ap (λ (z : State). z.next) x.state ∙ sym number)

  -- ---- a call

  abbrev Cause : ℕ → Op → Option Refusal
  Cause t op = call_cause k.relations k.counters (is_failed k) k.core t op

  uncaused : (t : ℕ) (op : Op) (outcome : Called) → ((why : Refusal) → Cause t op ≡ Some why → ◌≡◌ {A = Result Called Refusal} (Ok outcome) (Err why)) → Cause t op ≡ None
  uncaused t op outcome early = go (Cause t op) refl
    where
      go : (c : Option Refusal) → Cause t op ≡ c → c ≡ None
      go None e = refl
      go (Some why) e = absurd (let wrong : ◌≡◌ {A = Result Called Refusal} (Ok outcome) (Err why) = early why e in cc)

  pub call_made : (t : ℕ) (op : Op) (outcome : Called) → ((why : Refusal) → Cause t op ≡ Some why → ◌≡◌ {A = Result Called Refusal} (Ok outcome) (Err why)) → (Cause t op ≡ None → IsAnsweredBy k t op (Ok outcome))
      → ((first : Base) (s : State) → Shows first s k → HasCalled first s t op (Ok outcome) n) → CallsAtEvent k (Call t op) n → SamePhases k n → SameSchema k n → FailsIn k (CalledAs outcome) n → StaysRestarting k n → Found
      → HasMade k (Call t op) (CalledAs outcome) n
  call_made t op outcome early answer did device phases schema fails restarts found =
      let none = uncaused t op outcome early in
      record { leads = λ first s starts shows. leads outcome first s (did first s shows); due = (none, answer none); device = device; phases = phases; fails = fails; restarts = restarts; found = found; schema = schema }
    where
      leads : (outcome : Called) (first : Base) (s : State) → HasCalled first s t op (Ok outcome) n → Leads first s (Call t op) (CalledAs outcome)
      leads call.Started first s shows = ∣ ([], called s t op, calls t op, shows) ∣₁
      leads (call.Wait holder) first s shows = still (Call t op) (CalledAs (call.Wait holder)) first s (call_waits t op holder) shows

  pub call_refused : (t : ℕ) (op : Op) (why : Refusal) → ((y : Refusal) → Cause t op ≡ Some y → ◌≡◌ {A = Result Called Refusal} (Err why) (Err y)) → (Cause t op ≡ None → IsAnsweredBy k t op (Err why))
      → ((first : Base) (s : State) → Shows first s k → HasCalled first s t op (Err why) n) → CallsAtEvent k (Call t op) n → SamePhases k n → SameSchema k n → FailsIn k (Refused why) n → StaysRestarting k n → Found
      → HasMade k (Call t op) (Refused why) n
  call_refused t op why early answer did device phases schema fails restarts found = still_made (Call t op) (Refused why) (is_refused (Call t op) why) did (go (Cause t op) refl) device phases schema fails restarts found
    where
      go : (c : Option Refusal) → Cause t op ≡ c → IsDue k (Call t op) (Refused why) n
      go None e = inr (e, answer e)
      go (Some y) e = inl (inr (e ∙ (let both : ◌≡◌ {A = Result Called Refusal} (Err why) (Err y) = early y e in let same : y ≡ why = cc in ap (λ (x : Refusal). Some x) same)))

  -- ---- a step

  pub step_made : (t : ℕ) (outcome : StepOutcome) → IsStepped k t outcome n → ReadsDevice k n → ((first : Base) (s : State) → Shows first s k → HasStepped first s t (Ok outcome) n) → SamePhases k n → SameSchema k n → FailsIn k (Stepped outcome) n → StaysRestarting k n → Found
      → HasMade k (Step t) (Stepped outcome) n
  step_made t outcome due once did phases schema fails restarts found = record { leads = λ first s starts shows. leads outcome first s shows (did first s shows); due = due; device = once; phases = phases; fails = fails; restarts = restarts; found = found; schema = schema }
    where
      ends_with : (reply : Reply) (first : Base) (s : State) → Shows first s k → (o : Option Op) → s.running t ≡ o → HasStepped first s t (Ok (step.Replied reply)) n → Leads first s (Step t) (Stepped (step.Replied reply))
      ends_with reply first s shows None none did =
          let holds = both_hold (is_failed k) (is_open (state_in k.core.live.members t)) (is_busy k.core t) due.may in
          let idle = idle_of g k.relations k.counters k.core first s shows t (open_state (state_in k.core.live.members t) holds.0) none in
          absurd (let wrong : true ≡ false = sym holds.1 ∙ idle in cc)
      ends_with reply first s shows (Some op) runs did =
          let ended_so = did op runs in
          ∥∥₁_map ended_so.1 (λ is.
          subst (λ (r : Reply). (acts : List Act) × (z : State) × Moves (kernel_state k) s (Step t) (Stepped (step.Replied r)) acts z × Shows first z n) is (_, ended s t op, ends t op runs, ended_so.0))

      leads : (outcome : StepOutcome) (first : Base) (s : State) → Shows first s k → HasStepped first s t (Ok outcome) n → Leads first s (Step t) (Stepped outcome)
      leads (step.Replied reply) first s shows did = ends_with reply first s shows (s.running t) refl did
      leads step.Went first s shows did = still (Step t) (Stepped step.Went) first s (step_went t) did
      leads (step.Wait other) first s shows did = still (Step t) (Stepped (step.Wait other)) first s (step_waits t other) did
      leads step.Again first s shows did = still (Step t) (Stepped step.Again) first s (step_again t) did
      leads step.Flush first s shows did = still (Step t) (Stepped step.Flush) first s (step_full t) did

  -- ---- a step of an abort

  pub undo_made : (t : ℕ) (outcome : AbortStepped) → IsAbortStepped k t outcome n → ReadsDevice k n → ((first : Base) (s : State) → Shows first s k → HasAborted first s t (Ok outcome) n) → SetsPhases k (AbortStep t) (Undone outcome) n → SameSchema k n → FailsIn k (Undone outcome) n → StaysRestarting k n → Found
      → HasMade k (AbortStep t) (Undone outcome) n
  undo_made t outcome due once did phases schema fails restarts found = record { leads = λ first s starts shows. leads outcome first s (did first s shows); due = due; device = once; phases = phases; fails = fails; restarts = restarts; found = found; schema = schema }
    where
      leads : (outcome : AbortStepped) (first : Base) (s : State) → HasAborted first s t (Ok outcome) n → Leads first s (AbortStep t) (Undone outcome)
      leads abort.More first s did = ∥∥₁_map did (λ (z, back, shows). let moves = undo_moves (kernel_state k) t s z back in (moves.0, z, moves.1, shows))
      leads (abort.Wait other) first s did = still (AbortStep t) (Undone (abort.Wait other)) first s (abort_waits t other) did
      leads abort.Again first s did = still (AbortStep t) (Undone abort.Again) first s (abort_again t) did
      leads abort.Flush first s did = still (AbortStep t) (Undone abort.Flush) first s (abort_full t) did
      leads abort.Ended first s did = ∥∥₁_map did.1 (λ nothing. ([], gone s t, aborts t nothing, did.0))

  pub undo_phases : (t : ℕ) (outcome : AbortStepped) → (outcome ≢ abort.Ended → SameStates k.core n.core) → SameCommits k.core n.core
      → (outcome ≡ abort.Ended → (state_in n.core.live.members t ≡ None) × SameStatesBut k.core n.core t) → SetsPhases k (AbortStep t) (Undone outcome) n
  undo_phases t abort.More same commits out = (same (λ e. cc), commits)
  undo_phases t (abort.Wait other) same commits out = (same (λ e. cc), commits)
  undo_phases t abort.Again same commits out = (same (λ e. cc), commits)
  undo_phases t abort.Flush same commits out = (same (λ e. cc), commits)
  undo_phases t abort.Ended same commits out = let gone = out refl in (gone.0, gone.1, commits)

  -- ---- going back begins

  -- the device is in the store
  pub store_device : kernel_store n ≡ kernel_store k → kernel_device n ≡ kernel_device k
  store_device same = ap (λ (s : Store D). s.device) same

  pub kernel_same : n ≡ k → kernel_device n ≡ kernel_device k
  kernel_same same = ap (λ (x : Kernel D g). kernel_device x) same

  -- ---- a step of going back

  abbrev HasGoneBack : ℕ → Result AbortStepped Refusal → Type 0
  HasGoneBack t result = (base : Base) (s : State) (first : ℕ) → Shows base s k → kernel_state k t ≡ Some (Returning first) → HasReturned base s t first result n

  pub return_made : (t : ℕ) (outcome : AbortStepped) → IsReturned k t outcome n → ReadsDevice k n → HasGoneBack t (Ok outcome) → SetsPhases k (BackStep t) (Returned outcome) n → SameSchema k n → FailsIn k (Returned outcome) n → StaysRestarting k n → Found
      → HasMade k (BackStep t) (Returned outcome) n
  return_made t outcome due once did phases schema fails restarts found = record {
    leads = λ base s starts shows. let goes = returning_to (is_failed k) (kernel_state k t) due.may in leads outcome goes.0 goes.1 base s (did base s goes.0 shows goes.1);
    due = due;
    device = once;
    phases = phases;
    fails = fails;
    restarts = restarts;
    found = found;
    schema = schema;
  }
    where
      leads : (outcome : AbortStepped) (first : ℕ) → kernel_state k t ≡ Some (Returning first) → (base : Base) (s : State) → HasReturned base s t first (Ok outcome) n → Leads base s (BackStep t) (Returned outcome)
      leads abort.More first goes base s did = ∥∥₁_map did (λ (z, back, shows). let moves = return_moves (kernel_state k) t first s z goes back in (moves.0, z, moves.1, shows))
      leads (abort.Wait other) first goes base s did = still (BackStep t) (Returned (abort.Wait other)) base s (return_waits t other) did
      leads abort.Again first goes base s did = still (BackStep t) (Returned abort.Again) base s (return_again t) did
      leads abort.Flush first goes base s did = still (BackStep t) (Returned abort.Flush) base s (return_full t) did
      leads abort.Ended first goes base s did = ∥∥₁_map did.1 (λ nothing. ([], settled s t first, settles t first goes nothing, did.0))

  pub return_phases : (t : ℕ) (outcome : AbortStepped) → return_cause (is_failed k) k.core t ≡ None → (outcome ≢ abort.Ended → SameStates k.core n.core) → SameCommits k.core n.core
      → ((first : ℕ) → kernel_state k t ≡ Some (Returning first) → outcome ≡ abort.Ended → SetsState k.core n.core t (Some Open)) → SetsPhases k (BackStep t) (Returned outcome) n
  return_phases t abort.More may same commits opened = (same (λ e. cc), commits)
  return_phases t (abort.Wait other) may same commits opened = (same (λ e. cc), commits)
  return_phases t abort.Again may same commits opened = (same (λ e. cc), commits)
  return_phases t abort.Flush may same commits opened = (same (λ e. cc), commits)
  return_phases t abort.Ended may same commits opened = let goes = returning_to (is_failed k) (kernel_state k t) may in (opened goes.0 goes.1 refl, commits)

  -- one that is refused leaves the state
  pub return_stays : (t : ℕ) (why : Refusal) → IsRefusedAtOnce {T = AbortStepped} (return_cause (is_failed k) k.core t) k (Err why) n → HasGoneBack t (Err why) → Stays k n
  return_stays t why early did base s shows = go (return_cause (is_failed k) k.core t) refl
    where
      go : (o : Option Refusal) → return_cause (is_failed k) k.core t ≡ o → Shows base s n
      go None is = let goes = returning_to (is_failed k) (kernel_state k t) is in did base s goes.0 shows goes.1
      go (Some cause) is = subst (λ (m : Kernel D g). Shows base s m) (sym (early cause is).1) shows

  -- ---- a step of a force, and a flush

  pub rest_phases : OnlyOperations k.core n.core → SamePhases k n
  rest_phases same = (λ u. ap (λ (x : Core D). state_in x.live.members u) same, ap (λ (x : Core D). x.commits.items) same)

  pub parts_phases : n.core ≡ k.core → SamePhases k n
  parts_phases same = (λ u. ap (λ (x : Core D). state_in x.live.members u) same, ap (λ (x : Core D). x.commits.items) same)

  pub kernel_phases : n ≡ k → SamePhases k n
  kernel_phases same = parts_phases (ap (λ (x : Kernel D g). x.core) same)

  pub flush_reported : (outcome : FlushOutcome) → ((p : ℕ) → outcome ≡ flush.Page p → IsFlushed k (flush.Page p) n) → (outcome ≡ flush.Force → IsFlushed k flush.Force n) → (outcome ≡ flush.Clean → IsFlushed k flush.Clean n) → IsFlushed k outcome n
  flush_reported (flush.Page p) written barred nothing = written p refl
  flush_reported flush.Force written barred nothing = barred refl
  flush_reported flush.Clean written barred nothing = nothing refl

  pub force_made : (outcome : KernelForced) → CallsOnce k n → ((first : Base) (s : State) → Shows first s k → HasForced first s (Ok outcome) n) → IsDue k Force (Forced outcome) n → SetsPhases k Force (Forced outcome) n → SameSchema k n → FailsIn k (Forced outcome) n → StaysRestarting k n → Found
      → HasMade k Force (Forced outcome) n
  force_made outcome once did due phases schema fails restarts found = record { leads = λ first s starts shows. leads outcome first s (did first s shows); due = due; device = once; phases = phases; fails = fails; restarts = restarts; found = found; schema = schema }
    where
      leads : (outcome : KernelForced) (first : Base) (s : State) → HasForced first s (Ok outcome) n → Leads first s Force (Forced outcome)
      leads forced.More first s did = still Force (Forced forced.More) first s force_went did
      leads forced.Idle first s did = still Force (Forced forced.Idle) first s force_idle did
      leads (forced.Durable names) first s did = ∣ ([], _, books names, did) ∣₁
