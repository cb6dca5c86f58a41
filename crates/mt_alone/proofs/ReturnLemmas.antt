-- The steps of going back, of a transaction that is alone.
use Rattle.std.proofs.Common.{◌≡◌, ◌≢◌, ◌≤◌, ◌⊎◌, ℕ, true, cond, List, [], ◌∷◌, ◌++◌, Option, Some, None, is_some, take, drop, Result, Ok, Err, refl, ap, sym, subst, ◌∙◌, arith, append_assoc}
use Rattle.std.specs.Prelude.{Bool, if◌then◌else◌, IfOk, IfErr, OnErr}
use Rattle.std.proofs.lemmas.List.{append-nil}
use mathlib.Core.Logic.{∥∥₁_elim, ∥∥₁_map}
use Rattle.std.proofs.Props.{props}
use Rattle.mt_base.specs.declared.refusal.Refusal.{Refusal}
use Rattle.mt_base.specs.declared.refusal.Refusal.TheVariants as refusal
use Rattle.mt_disk.specs.declared.device.Device.{Ghosts}
use Rattle.mt_live.proofs.AddLemmas.{eq_self}
use Rattle.mt_live.proofs.Alone.{alone_returns, alone_settles}
use Rattle.mt_live.specs.Alone.{IsAlone}
use Rattle.mt_live.specs.Inverses.{inverses_on}
use Rattle.mt_live.specs.Machine.{State, IsKept, committed_base, settled}
use Rattle.mt_live.specs.declared.transactions.TxnState.{TxnState}
use Rattle.mt_live.specs.declared.transactions.TxnState.TheVariants.{Open, Returning}
use Rattle.mt_model.proofs.Appends.{run-append}
use Rattle.mt_model.specs.History.{Call, run, after}
use Rattle.mt_model.specs.Model.{Base, reply_of, base_after}
use Rattle.mt_model.specs.declared.operations.Op.{Op}
use Rattle.mt_core.specs.Consistent.{SameStates, SetsState}
use Rattle.mt_core.specs.Runs.{is_returning, state_in}
use Rattle.mt_core.specs.Work.{undo_steps}
use Rattle.mt_txn.proofs.Showing.{kept_of}
use Rattle.mt_txn.specs.Causes.{IsFault, return_cause, unless}
use Rattle.mt_txn.specs.Events.{HasReturned, IsReturn}
use Rattle.mt_txn.specs.Events.IsReturn.{stays, returns}
use Rattle.mt_txn.specs.Shown.{Shows, Stays, is_failed}
use Rattle.mt_txn.specs.Work.{IsAbortForOther, IsAnother, LowersUndoing, NoMoreAreLeft}
use Rattle.mt_txn.specs.declared.answers.AbortStepped.{AbortStepped}
use Rattle.mt_txn.specs.declared.answers.AbortStepped.TheVariants as abort
use Rattle.mt_txn.specs.declared.kernel.Kernel.{Kernel}
use Rattle.mt_alone.proofs.DriveLemmas.{nobody_commits, nobody_there}
use Rattle.mt_alone.proofs.ForceLemmas.{fails_for}
use Rattle.mt_alone.specs.Driven.{Eases, Fails, IsGivenUp, IsNearer, IsOpened, IsPartWay, IsPlayed, IsReturning, NobodyCommits, ShowsOne}
use Rattle.mt_model.specs.Backwards.{OpenCalls}
use Rattle.mt_alone.specs.Plays.{Play, back_on}

-- ---- where calls lead

-- one inverse more among the calls, and one less that is left
one_taken : (b : Base) (calls : OpenCalls) (left : List Call) (n : ℕ) (i : Op) → take n left ≡ take n calls.counted
    → ((m : Base) → inverses_on m (drop n calls.counted) ≡ (i, reply_of m i) ∷ inverses_on (base_after m i) (drop n left))
    → back_on b (record { all = calls.all ++ (i, reply_of (run b calls.all) i) ∷ []; counted = left }) n ≡ back_on b calls n
one_taken b calls left n i first rest = λ j. record { all = all_is j; counted = first j }
  where
    c : Call
    c = (i, reply_of (run b calls.all) i)

    all_is : (calls.all ++ c ∷ []) ++ inverses_on (run b (calls.all ++ c ∷ [])) (drop n left) ≡ calls.all ++ inverses_on (run b calls.all) (drop n calls.counted)
    all_is =
        ap (λ (m : Base). (calls.all ++ c ∷ []) ++ inverses_on m (drop n left)) (run-append b calls.all (c ∷ []))
        ∙ (append_assoc calls.all (c ∷ []) (inverses_on (base_after (run b calls.all) i) (drop n left))
        ∙ ap (λ (cs : List Call). calls.all ++ cs) (sym (rest (run b calls.all))))

-- none is left
none_left : (b : Base) (calls : OpenCalls) (n : ℕ) → ((m : Base) → inverses_on m (drop n calls.counted) ≡ []) → record { all = calls.all; counted = take n calls.counted } ≡ back_on b calls n
none_left b calls n none = λ j. record { all = sym (ap (λ (cs : List Call). calls.all ++ cs) (none (run b calls.all)) ∙ append-nil calls.all) j; counted = take n calls.counted }

part_on : (p : Play) (t n : ℕ) (had : OpenCalls) (first : Base) (s z : State) → IsKept first s → IsReturn s t n z → IsPartWay first p t n had s → IsPartWay first p t n had z
part_on p t n had first s _ kept stays w = w
part_on p t n had first s _ kept (returns last i ps idle effect past inverts given) w =
    let played = w.playing.0 in
    let h = alone_returns first s t p.session n w.calls.all w.calls.counted last i ps kept w.playing.1 effect past inverts in
    let on : committed_base first s ≡ p.base = ap (after first) played.book ∙ played.base in
    let now : OpenCalls = record { all = w.calls.all ++ (i, reply_of (run (committed_base first s) w.calls.all) i) ∷ []; counted = h.left } in
    record {
      calls = now;
      playing = (record { first_is = played.first_is; book = played.book; base = played.base }, h.alone);
      leads = subst (λ (b : Base). back_on b now n ≡ back_on b w.calls n) on (one_taken (committed_base first s) w.calls h.left n i h.first h.rest) ∙ w.leads;
    }

-- ---- a step of it

module _ {D : Type 0} {g : Ghosts D} (p : Play) (t n : ℕ) (had : OpenCalls) where
  returning_stays : (k m : Kernel D g) → IsReturning p t n had k → Stays k m → SameStates k.core m.core → IsReturning p t n had m
  returning_stays k m c keeps states = record {
    shown = ∥∥₁_map c.shown (λ (first, s, shows, way). (first, s, keeps first s shows, way));
    state = states t ∙ c.state;
  }

  returning_left : (k m : Kernel D g) → IsReturning p t n had k → Stays k m → ShowsOne (λ first s. IsPlayed first p s) m
  returning_left k m c keeps = ∥∥₁_map c.shown (λ (first, s, shows, way). (first, s, keeps first s shows, way.playing.0))

  returning_nobody : (k : Kernel D g) → IsReturning p t n had k → NobodyCommits k
  returning_nobody k c u is = ∥∥₁_elim c.shown (hlevel props) (λ (first, s, shows, way).
      nobody_commits k first s t (Returning n) shows way.playing.1.others c.state (λ e. cc) u is)

  returning_alone : (k : Kernel D g) (u : ℕ) → IsReturning p t n had k → IsAnother k.core.live.members t u → ⊥
  returning_alone k u c other = ∥∥₁_elim c.shown (hlevel props) (λ (first, s, shows, way).
      nobody_there k first s shows u (way.playing.1.others u other.0) other.1)

  return_cause_is : (k : Kernel D g) → state_in k.core.live.members t ≡ Some (Returning n) → return_cause (is_failed k) k.core t ≡ (if is_failed k then Some refusal.DeviceFailed else None)
  return_cause_is k state = ap (λ (o : Option TxnState). if is_failed k then Some refusal.DeviceFailed else unless (is_returning o) refusal.Stranger) state

  pub asked_return : (k m : Kernel D g) (r : Result AbortStepped Refusal) (pages : ℕ) → IsReturning p t n had k → (r ≡ Ok abort.Flush → ⊥) → ((first : Base) (s : State) (many : ℕ) → Shows first s k → state_in k.core.live.members t ≡ Some (Returning many) → HasReturned first s t many r m)
      → IfOk r (λ x. x ≢ abort.Ended → SameStates k.core m.core) → ((many : ℕ) → state_in k.core.live.members t ≡ Some (Returning many) → r ≡ Ok abort.Ended → SetsState k.core m.core t (Some Open)) → LowersUndoing NoMoreAreLeft pages r (undo_steps k.core t) (undo_steps m.core t)
      → IfOk r (IsAbortForOther k.core.live.members t) → IfErr r (λ why. why ≢ refusal.NoMemory → (return_cause (is_failed k) k.core t ≡ Some why) ⊎ IsFault g k.core m.core why)
      → ((why : Refusal) → return_cause (is_failed k) k.core t ≡ Some why → m ≡ k) → IsNearer p t n had k r m
  asked_return k m (Ok abort.More) pages c no_flush did states opened work other cause unmoved = (
    record {
      shown = ∥∥₁_elim c.shown (hlevel props) (λ (first, s, shows, way). ∥∥₁_elim (kept_of g k.relations k.counters k.core first s shows) (hlevel props) (λ kept.
          ∥∥₁_map (did first s n shows c.state) (λ (z, step, now). (first, z, now, part_on p t n had first s z kept step way))));
      state = states (λ e. cc) t ∙ c.state;
    },
    work,
  )
  asked_return k m (Ok (abort.Wait u)) pages c no_flush did states opened work other cause unmoved = returning_alone k u c other
  asked_return k m (Ok abort.Again) pages c no_flush did states opened work other cause unmoved = ∥∥₁_elim other (hlevel props) (λ (u, is). returning_alone k u c is)
  asked_return k m (Ok abort.Flush) pages c no_flush did states opened work other cause unmoved = no_flush refl
  asked_return k m (Ok abort.Ended) pages c no_flush did states opened work other cause unmoved = record {
    shown = ∥∥₁_elim c.shown (hlevel props) (λ (first, s, shows, way). ∥∥₁_map (did first s n shows c.state).1 (λ none.
        let played = way.playing.0 in
        let h = alone_settles s t p.session n way.calls.all way.calls.counted way.playing.1 none in (
          first,
          settled s t n,
          (did first s n shows c.state).0,
          (
            record { first_is = played.first_is; book = played.book; base = played.base },
            subst (λ (x : OpenCalls). IsAlone (settled s t n) t p.session x.all x.counted) (none_left p.base way.calls n h.1 ∙ way.leads) h.0,
          ),
        )));
    state = opened n c.state refl t ∙ ap (λ (b : Bool). cond b (Some Open) (state_in k.core.live.members t)) (eq_self t);
  }
  asked_return k m (Err why) pages c no_flush did states opened work other cause unmoved = (
    returning_left k m c (λ first s shows. did first s n shows c.state),
    fails_for k m why (return_cause (is_failed k) k.core t) (return_cause_is k c.state) unmoved cause,
  )

  -- it stands where it was, with no more before it
  abbrev pub ReturnsBy : Kernel D g → Kernel D g → Type 0
  ReturnsBy k m = IsReturning p t n had m × (undo_steps m.core t ≤ undo_steps k.core t)

  pub returns_flushed : (k m x y : Kernel D g) (pages : ℕ) (r : Result AbortStepped Refusal) → r ≡ Ok abort.Flush → ReturnsBy k m → ((first : Base) (s : State) (many : ℕ) → Shows first s m → state_in m.core.live.members t ≡ Some (Returning many) → HasReturned first s t many r x)
      → IfOk r (λ z. z ≢ abort.Ended → SameStates m.core x.core) → LowersUndoing NoMoreAreLeft pages r (undo_steps m.core t) (undo_steps x.core t) → (NobodyCommits x → Eases x y) → ReturnsBy k y
  returns_flushed k m x y pages r is stood did states lowers eases =
      let same = subst (λ (o : Result AbortStepped Refusal). IfOk o (λ z. z ≢ abort.Ended → SameStates m.core x.core)) is states (λ e. cc) in
      let at_x = returning_stays m x stood.0 (λ first s shows. subst (λ (o : Result AbortStepped Refusal). HasReturned first s t n o x) is (did first s n shows stood.0.state)) same in
      let work = subst (λ (o : Result AbortStepped Refusal). LowersUndoing NoMoreAreLeft pages o (undo_steps m.core t) (undo_steps x.core t)) is lowers in
      let e = eases (returning_nobody x at_x) in
      let less = e.undo t in let before = stood.1 in
      (returning_stays x y at_x e.state e.states, omega (arith, less, work, before))

  pub returns_refused : (k m x : Kernel D g) (pages : ℕ) (r : Result AbortStepped Refusal) (why : Refusal) → r ≡ Err why → ReturnsBy k m → ((first : Base) (s : State) (many : ℕ) → Shows first s m → state_in m.core.live.members t ≡ Some (Returning many) → HasReturned first s t many r x)
      → OnErr r (SameStates m.core x.core) → LowersUndoing NoMoreAreLeft pages r (undo_steps m.core t) (undo_steps x.core t) → ReturnsBy k x
  returns_refused k m x pages r why is stood did states lowers =
      let before = stood.1 in
      let same = subst (λ (o : Result AbortStepped Refusal). OnErr o (SameStates m.core x.core)) is states in
      let work = subst (λ (o : Result AbortStepped Refusal). LowersUndoing NoMoreAreLeft pages o (undo_steps m.core t) (undo_steps x.core t)) is lowers in
      (returning_stays m x stood.0 (λ first s shows. subst (λ (o : Result AbortStepped Refusal). HasReturned first s t n o x) is (did first s n shows stood.0.state)) same, omega (arith, work, before))

  -- room was not made
  pub returns_roomless : (k m x y : Kernel D g) (r : Result AbortStepped Refusal) (why : Refusal) → r ≡ Ok abort.Flush → ReturnsBy k m → ((first : Base) (s : State) (many : ℕ) → Shows first s m → state_in m.core.live.members t ≡ Some (Returning many) → HasReturned first s t many r x)
      → IfOk r (λ z. z ≢ abort.Ended → SameStates m.core x.core) → (NobodyCommits x → Eases x y) → Fails y why → IsGivenUp p y why
  returns_roomless k m x y r why is stood did states eases fails =
      let same = subst (λ (o : Result AbortStepped Refusal). IfOk o (λ z. z ≢ abort.Ended → SameStates m.core x.core)) is states (λ e. cc) in
      let at_x = returning_stays m x stood.0 (λ first s shows. subst (λ (o : Result AbortStepped Refusal). HasReturned first s t n o x) is (did first s n shows stood.0.state)) same in
      (returning_left x y at_x (eases (returning_nobody x at_x)).state, fails)

  pub nearer_from : (k m x : Kernel D g) (r : Result AbortStepped Refusal) → undo_steps m.core t ≤ undo_steps k.core t → IsNearer p t n had m r x → IsNearer p t n had k r x
  nearer_from k m x (Ok abort.More) less is = let now = is.1 in (is.0, omega (arith, now, less))
  nearer_from k m x (Ok (abort.Wait u)) less is = absurd is
  nearer_from k m x (Ok abort.Again) less is = absurd is
  nearer_from k m x (Ok abort.Flush) less is = absurd is
  nearer_from k m x (Ok abort.Ended) less is = is
  nearer_from k m x (Err why) less is = is

  -- the last time that it was asked it found no memory, or no frame
  pub returns_no_more : (k m : Kernel D g) → ReturnsBy k m → IsGivenUp p m refusal.NoMemory
  returns_no_more k m stood = (returning_left m m stood.0 (λ first s shows. shows), λ other. absurd (other refl))
