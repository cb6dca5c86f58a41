-- The steps of an operation whose transaction is alone, and those of its abort.
use Rattle.std.proofs.Common.{◌≡◌, ◌≢◌, ◌≤◌, ◌⊎◌, ℕ, Bool, true, false, cond, List, [], ◌∷◌, ◌++◌, Option, Some, None, is_some, ⊎_elim, Result, Ok, Err, refl, ap, ap₂, sym, subst, ◌∙◌, arith}
use Rattle.std.specs.Prelude.{if◌then◌else◌, IfOk, IfErr, OnErr}
use Rattle.std.proofs.lemmas.Bool.{cases_eq, ne_eqb}
use Rattle.std.specs.Option.{option_map}
use mathlib.Core.Logic.{∥∥₁_elim, ∥∥₁_map}
use Rattle.std.proofs.Props.{props}
use Rattle.mt_base.specs.declared.refusal.Refusal.{Refusal}
use Rattle.mt_base.specs.declared.refusal.Refusal.TheVariants as refusal
use Rattle.mt_disk.specs.declared.device.Device.{Ghosts}
use Rattle.mt_live.proofs.AddLemmas.{eq_self}
use Rattle.mt_live.proofs.Alone.{alone_acts, alone_holds}
use Rattle.mt_live.specs.Alone.{IsAlone}
use Rattle.mt_live.specs.Lives.{member_of}
use Rattle.mt_live.specs.Machine.{State, committed_base, called, ended, gone, put}
use Rattle.mt_live.specs.Members.{Member}
use Rattle.mt_live.specs.declared.transactions.TxnState.{TxnState}
use Rattle.mt_live.specs.declared.transactions.TxnState.TheVariants.{Open, Committing, Aborting}
use Rattle.mt_model.specs.History.{Call, run, after}
use Rattle.mt_model.specs.Model.{Base, reply_of}
use Rattle.mt_model.specs.declared.operations.Op.{Op}
use Rattle.mt_model.specs.declared.operations.Reply.{Reply}
use Rattle.mt_core.specs.Consistent.{SameStates}
use Rattle.mt_core.specs.Runs.{state_in}
use Rattle.mt_core.specs.Work.{steps_in, undo_steps}
use Rattle.mt_op.specs.declared.scope.OpScope.{OpScope}
use Rattle.mt_txn.proofs.Living.{busy_of}
use Rattle.mt_txn.specs.Causes.{IsFault, abort_cause, is_aborting, is_busy, is_open, step_cause, unless, first_of}
use Rattle.mt_txn.specs.Events.{HasStepped, HasAborted}
use Rattle.mt_txn.specs.Events.{IsBack}
use Rattle.mt_txn.specs.Events.IsBack.{stands, drops, undoes}
use Rattle.mt_txn.specs.Shown.{Shows, Stays, is_failed}
use Rattle.mt_txn.specs.Work.{IsAnother, IsForOther, IsAbortForOther, LowersSteps, LowersUndoing, NoneAreLeft}
use Rattle.mt_txn.specs.declared.answers.Stepped.{Stepped}
use Rattle.mt_txn.specs.declared.answers.Stepped.TheVariants as step
use Rattle.mt_txn.specs.declared.answers.AbortStepped.{AbortStepped}
use Rattle.mt_txn.specs.declared.answers.AbortStepped.TheVariants as abort
use Rattle.mt_txn.specs.declared.kernel.Kernel.{Kernel}
use Rattle.mt_alone.proofs.ForceLemmas.{fails_for}
use Rattle.mt_alone.specs.Driven.{Eases, Fails, IsCalling, IsGivenUp, IsGoing, IsMoved, IsBacked, IsOpened, IsPlayed, IsUndone, NobodyCommits, ShowsOne}
use Rattle.mt_model.specs.Backwards.{OpenCalls, with_one}
use Rattle.mt_alone.specs.Plays.{Play}

-- ---- who lives

no_state : (o : Option Member) → option_map (λ (m : Member). m.session) o ≡ None → option_map (λ (m : Member). m.state) o ≡ None
no_state None is = refl
no_state (Some m) is = absurd cc

no_member : (o : Option Member) → option_map (λ (m : Member). m.session) o ≡ None → is_some o ≡ true → ⊥
no_member None is lives = absurd cc
no_member (Some m) is lives = absurd cc

module _ {D : Type 0} {g : Ghosts D} where
  -- one that is not of the state does not live
  absent : (k : Kernel D g) (first : Base) (s : State) → Shows first s k → (u : ℕ) → s.sessions u ≡ None → state_in k.core.live.members u ≡ None
  absent k first s shows u none = ∥∥₁_elim shows (hlevel props) (λ (origin, base, is, x).
      no_state (member_of k.core.live.members u) (ap (λ (z : State). z.sessions u) (sym x.state) ∙ none))

  pub nobody_there : (k : Kernel D g) (first : Base) (s : State) → Shows first s k → (u : ℕ) → s.sessions u ≡ None → is_some (member_of k.core.live.members u) ≡ true → ⊥
  nobody_there k first s shows u none lives = ∥∥₁_elim shows (hlevel props) (λ (origin, base, is, x).
      no_member (member_of k.core.live.members u) (ap (λ (z : State). z.sessions u) (sym x.state) ∙ none) lives)

  pub nobody_commits : (k : Kernel D g) (first : Base) (s : State) (t : ℕ) (x : TxnState) → Shows first s k → ((u : ℕ) → u ≢ t → s.sessions u ≡ None) → state_in k.core.live.members t ≡ Some x → x ≢ Committing → NobodyCommits k
  nobody_commits k first s t x shows others state not u is = ⊎_elim
      (λ (same : u ≡ t). not (let e : Some x ≡ Some Committing = sym state ∙ ap (state_in k.core.live.members) (sym same) ∙ is in cc))
      (λ (other : u ≢ t). let e : None ≡ Some Committing = sym (absent k first s shows u (others u other)) ∙ is in absurd cc) (cases_eq u t)

  -- ---- causes

  step_cause_is : (k : Kernel D g) (t : ℕ) → state_in k.core.live.members t ≡ Some Open → is_busy k.core t ≡ true → step_cause (is_failed k) k.core t ≡ (if is_failed k then Some refusal.DeviceFailed else None)
  step_cause_is k t state busy = go (is_failed k) refl
    where
      go : (b : Bool) → is_failed k ≡ b → step_cause (is_failed k) k.core t ≡ (if b then Some refusal.DeviceFailed else None)
      go b is =
          ap₂ (λ (o : Option TxnState) (c : Bool). first_of (if is_failed k then Some refusal.DeviceFailed else unless (is_open o) refusal.Stranger) (unless c refusal.Stranger)) state busy
          ∙ ap (λ (c : Bool). first_of (if c then Some refusal.DeviceFailed else None) None) is ∙ by b
        where
          by : (c : Bool) → first_of (if c then Some refusal.DeviceFailed else None) None ≡ (if c then Some refusal.DeviceFailed else None)
          by true = refl
          by false = refl

  abort_cause_is : (k : Kernel D g) (t : ℕ) → state_in k.core.live.members t ≡ Some Aborting → abort_cause (is_failed k) k.core t ≡ (if is_failed k then Some refusal.DeviceFailed else None)
  abort_cause_is k t state = ap (λ (o : Option TxnState). if is_failed k then Some refusal.DeviceFailed else unless (is_aborting o) refusal.Stranger) state

own_is : {A : Type 0} (f : ℕ → A) (t : ℕ) (x : A) → put f t x t ≡ x
own_is f t x = ap (λ (c : Bool). cond c x (f t)) (eq_self t)

-- ---- a step of its operation

module _ {D : Type 0} {g : Ghosts D} (p : Play) (t : ℕ) (calls : OpenCalls) (op : Op) where
  calling_stays : (k n : Kernel D g) → IsCalling p t calls op k → Stays k n → SameStates k.core n.core → IsCalling p t calls op n
  calling_stays k n c stays states = record {
    shown = ∥∥₁_map c.shown (λ (first, s, kept, plays, shows). (first, s, kept, plays, stays first (called s t op) shows));
    state = states t ∙ c.state;
  }

  calling_left : (k n : Kernel D g) → IsCalling p t calls op k → Stays k n → ShowsOne (λ first s. IsPlayed first p s) n
  calling_left k n c stays = ∥∥₁_map c.shown (λ (first, s, kept, plays, shows). (first, called s t op, stays first (called s t op) shows, record { first_is = plays.0.first_is; book = plays.0.book; base = plays.0.base }))

  calling_nobody : (k : Kernel D g) → IsCalling p t calls op k → NobodyCommits k
  calling_nobody k c u is = ∥∥₁_elim c.shown (hlevel props) (λ (first, s, kept, plays, shows).
      nobody_commits k first (called s t op) t Open shows plays.1.others c.state (λ e. cc) u is)

  calling_alone : (k : Kernel D g) (u : ℕ) → IsCalling p t calls op k → IsAnother k.core.live.members t u → ⊥
  calling_alone k u c other = ∥∥₁_elim c.shown (hlevel props) (λ (first, s, kept, plays, shows).
      nobody_there k first (called s t op) shows u (plays.1.others u other.0) other.1)

  calling_busy : (k : Kernel D g) → IsCalling p t calls op k → is_busy k.core t ≡ true
  calling_busy k c = ∥∥₁_elim c.shown (hlevel props) (λ (first, s, kept, plays, shows).
      busy_of g k.relations k.counters k.core first (called s t op) shows t op (own_is s.running t (Some op)))

  calling_replied : (k n : Kernel D g) (reply : Reply) → IsCalling p t calls op k → ((first : Base) (s : State) → Shows first s k → HasStepped first s t (Ok (step.Replied reply)) n)
      → SameStates k.core n.core → (reply ≡ reply_of (run p.base calls.all) op) × IsOpened p t (with_one calls (op, reply_of (run p.base calls.all) op)) n
  calling_replied k n reply c did states = (
    ∥∥₁_elim c.shown (hlevel props) (λ (first, s, kept, plays, shows).
        ∥∥₁_elim (did first (called s t op) shows op (own_is s.running t (Some op))).1 (hlevel props) (λ is.
        sym is ∙ ap (λ (b : Base). reply_of b op) (alone_holds first s t p.session calls.all calls.counted kept plays.1 ∙ ap (λ (b : Base). run b calls.all) (on first s plays.0)))),
    record {
      shown = ∥∥₁_map c.shown (λ (first, s, kept, plays, shows). (
        first,
        ended (called s t op) t op,
        (did first (called s t op) shows op (own_is s.running t (Some op))).0,
        (
          record { first_is = plays.0.first_is; book = plays.0.book; base = plays.0.base },
          subst (λ (b : Base). IsAlone (ended (called s t op) t op) t p.session (calls.all ++ (op, reply_of (run b calls.all) op) ∷ []) (calls.counted ++ (op, reply_of (run b calls.all) op) ∷ [])) (on first s plays.0) (alone_acts first s t p.session calls.all calls.counted op kept plays.1),
        ),
      ));
      state = states t ∙ c.state;
    },
  )
    where
      on : (first : Base) (s : State) → IsPlayed first p s → committed_base first s ≡ p.base
      on first s played = ap (after first) played.book ∙ played.base

  -- an answer that is no flush
  pub asked : (k n : Kernel D g) (r : Result Stepped Refusal) (pages : ℕ) → IsCalling p t calls op k → (r ≡ Ok step.Flush → ⊥) → ((first : Base) (s : State) → Shows first s k → HasStepped first s t r n)
      → SameStates k.core n.core → LowersSteps pages r (steps_in k.core.running.items t) (steps_in n.core.running.items t) → IfOk r (IsForOther k.core.live.members t)
      → IfErr r (λ why. why ≢ refusal.NoMemory → (step_cause (is_failed k) k.core t ≡ Some why) ⊎ IsFault g k.core n.core why) → ((why : Refusal) → step_cause (is_failed k) k.core t ≡ Some why → n ≡ k) → IsMoved p t calls op k r n
  asked k n (Ok (step.Replied reply)) pages c no_flush did states work other cause unmoved = calling_replied k n reply c did states
  asked k n (Ok step.Went) pages c no_flush did states work other cause unmoved = (calling_stays k n c did states, work)
  asked k n (Ok (step.Wait u)) pages c no_flush did states work other cause unmoved = calling_alone k u c other
  asked k n (Ok step.Again) pages c no_flush did states work other cause unmoved = ∥∥₁_elim other (hlevel props) (λ (u, is). calling_alone k u c is)
  asked k n (Ok step.Flush) pages c no_flush did states work other cause unmoved = no_flush refl
  asked k n (Err why) pages c no_flush did states work other cause unmoved = (
    calling_left k n c did,
    fails_for k n why (step_cause (is_failed k) k.core t) (step_cause_is k t c.state (calling_busy k c)) unmoved cause,
  )

  -- it stands where it was, with no more before it
  abbrev pub StandsBy : Kernel D g → Kernel D g → Type 0
  StandsBy k n = IsCalling p t calls op n × (steps_in n.core.running.items t ≤ steps_in k.core.running.items t)

  pub stands_flushed : (k m x n : Kernel D g) (pages : ℕ) (r : Result Stepped Refusal) → r ≡ Ok step.Flush → StandsBy k m → ((first : Base) (s : State) → Shows first s m → HasStepped first s t r x) → SameStates m.core x.core
      → LowersSteps pages r (steps_in m.core.running.items t) (steps_in x.core.running.items t) → (NobodyCommits x → Eases x n) → StandsBy k n
  stands_flushed k m x n pages r is stood did states lowers eases =
      let at_x = calling_stays m x stood.0 (subst (λ (o : Result Stepped Refusal). (first : Base) (s : State) → Shows first s m → HasStepped first s t o x) is did) states in
      let work = subst (λ (o : Result Stepped Refusal). LowersSteps pages o (steps_in m.core.running.items t) (steps_in x.core.running.items t)) is lowers in
      let e = eases (calling_nobody x at_x) in
      let same : steps_in n.core.running.items t ≡ steps_in x.core.running.items t = ap (λ (rs : List OpScope). steps_in rs t) e.running in
      let before = stood.1 in
      (calling_stays x n at_x e.state e.states, omega (arith, same, work, before))

  pub stands_refused : (k m n : Kernel D g) (pages : ℕ) (r : Result Stepped Refusal) (why : Refusal) → r ≡ Err why → StandsBy k m → ((first : Base) (s : State) → Shows first s m → HasStepped first s t r n) → SameStates m.core n.core
      → LowersSteps pages r (steps_in m.core.running.items t) (steps_in n.core.running.items t) → StandsBy k n
  stands_refused k m n pages r why is stood did states lowers =
      let before = stood.1 in
      let work = subst (λ (o : Result Stepped Refusal). LowersSteps pages o (steps_in m.core.running.items t) (steps_in n.core.running.items t)) is lowers in
      (calling_stays m n stood.0 (subst (λ (o : Result Stepped Refusal). (first : Base) (s : State) → Shows first s m → HasStepped first s t o n) is did) states, omega (arith, work, before))

  -- room was not made
  pub roomless : (k m x n : Kernel D g) (r : Result Stepped Refusal) (why : Refusal) → r ≡ Ok step.Flush → StandsBy k m → ((first : Base) (s : State) → Shows first s m → HasStepped first s t r x) → SameStates m.core x.core
      → (NobodyCommits x → Eases x n) → Fails n why → IsGivenUp p n why
  roomless k m x n r why is stood did states eases fails =
      let at_x = calling_stays m x stood.0 (subst (λ (o : Result Stepped Refusal). (first : Base) (s : State) → Shows first s m → HasStepped first s t o x) is did) states in
      (calling_left x n at_x (eases (calling_nobody x at_x)).state, fails)

  pub asked_from : (k m n : Kernel D g) (r : Result Stepped Refusal) → steps_in m.core.running.items t ≤ steps_in k.core.running.items t → IsMoved p t calls op m r n → IsMoved p t calls op k r n
  asked_from k m n (Ok (step.Replied reply)) less is = is
  asked_from k m n (Ok step.Went) less is = let now = is.1 in (is.0, omega (arith, now, less))
  asked_from k m n (Ok (step.Wait u)) less is = absurd is
  asked_from k m n (Ok step.Again) less is = absurd is
  asked_from k m n (Ok step.Flush) less is = absurd is
  asked_from k m n (Err why) less is = is

  -- the last time that it was asked it found no memory, or no frame
  pub worn_out : (k n : Kernel D g) → StandsBy k n → IsGivenUp p n refusal.NoMemory
  worn_out k n stood = (calling_left n n stood.0 (λ first s shows. shows), λ other. absurd (other refl))

-- ---- a step of its abort

undone_back : (p : Play) (t : ℕ) (first : Base) (s z : State) → IsBack s t z → IsUndone first p t s → IsUndone first p t z
undone_back p t first s _ stands u = u
undone_back p t first s _ (drops op ps runs given) u = record { played = record { first_is = u.played.first_is; book = u.played.book; base = u.played.base }; others = u.others }
undone_back p t first s _ (undoes last i ps idle effect inverts given) u = record { played = record { first_is = u.played.first_is; book = u.played.book; base = u.played.base }; others = u.others }

module _ {D : Type 0} {g : Ghosts D} (p : Play) (t : ℕ) where
  going_stays : (k n : Kernel D g) → IsGoing p t k → Stays k n → SameStates k.core n.core → IsGoing p t n
  going_stays k n c stays states = record {
    shown = ∥∥₁_map c.shown (λ (first, s, shows, undone). (first, s, stays first s shows, undone));
    state = states t ∙ c.state;
  }

  going_left : (k n : Kernel D g) → IsGoing p t k → Stays k n → ShowsOne (λ first s. IsPlayed first p s) n
  going_left k n c stays = ∥∥₁_map c.shown (λ (first, s, shows, undone). (first, s, stays first s shows, undone.played))

  going_nobody : (k : Kernel D g) → IsGoing p t k → NobodyCommits k
  going_nobody k c u is = ∥∥₁_elim c.shown (hlevel props) (λ (first, s, shows, undone).
      nobody_commits k first s t Aborting shows undone.others c.state (λ e. cc) u is)

  going_alone : (k : Kernel D g) (u : ℕ) → IsGoing p t k → IsAnother k.core.live.members t u → ⊥
  going_alone k u c other = ∥∥₁_elim c.shown (hlevel props) (λ (first, s, shows, undone).
      nobody_there k first s shows u (undone.others u other.0) other.1)

  pub asked_back : (k n : Kernel D g) (r : Result AbortStepped Refusal) (pages : ℕ) → IsGoing p t k → (r ≡ Ok abort.Flush → ⊥) → ((first : Base) (s : State) → Shows first s k → HasAborted first s t r n)
      → IfOk r (λ x. x ≢ abort.Ended → SameStates k.core n.core) → LowersUndoing NoneAreLeft pages r (undo_steps k.core t) (undo_steps n.core t) → IfOk r (IsAbortForOther k.core.live.members t)
      → IfErr r (λ why. why ≢ refusal.NoMemory → (abort_cause (is_failed k) k.core t ≡ Some why) ⊎ IsFault g k.core n.core why) → ((why : Refusal) → abort_cause (is_failed k) k.core t ≡ Some why → n ≡ k) → IsBacked p t k r n
  asked_back k n (Ok abort.More) pages c no_flush did states work other cause unmoved = (
    record {
      shown = ∥∥₁_elim c.shown (hlevel props) (λ (first, s, shows, undone). ∥∥₁_map (did first s shows) (λ (z, back, now). (first, z, now, undone_back p t first s z back undone)));
      state = states (λ e. cc) t ∙ c.state;
    },
    work,
  )
  asked_back k n (Ok (abort.Wait u)) pages c no_flush did states work other cause unmoved = going_alone k u c other
  asked_back k n (Ok abort.Again) pages c no_flush did states work other cause unmoved = ∥∥₁_elim other (hlevel props) (λ (u, is). going_alone k u c is)
  asked_back k n (Ok abort.Flush) pages c no_flush did states work other cause unmoved = no_flush refl
  asked_back k n (Ok abort.Ended) pages c no_flush did states work other cause unmoved = record {
    shown = ∥∥₁_map c.shown (λ (first, s, shows, undone). (
      first,
      gone s t,
      (did first s shows).0,
      (
        record { first_is = undone.played.first_is; book = undone.played.book; base = undone.played.base },
        λ u. ⊎_elim (λ (same : u ≡ t). ap (put s.sessions t None) same ∙ own_is s.sessions t None) (λ (apart : u ≢ t). other_is s u apart ∙ undone.others u apart) (cases_eq u t),
      ),
    ));
    nothing = refl;
  }
    where
      other_is : (s : State) (u : ℕ) → u ≢ t → put s.sessions t None u ≡ s.sessions u
      other_is s u apart = ap (λ (c : Bool). cond c None (s.sessions u)) (ne_eqb u t apart)
  asked_back k n (Err why) pages c no_flush did states work other cause unmoved = (
    going_left k n c did,
    fails_for k n why (abort_cause (is_failed k) k.core t) (abort_cause_is k t c.state) unmoved cause,
  )

  abbrev pub GoesBy : Kernel D g → Kernel D g → Type 0
  GoesBy k n = IsGoing p t n × (undo_steps n.core t ≤ undo_steps k.core t)

  pub goes_flushed : (k m x n : Kernel D g) (pages : ℕ) (r : Result AbortStepped Refusal) → r ≡ Ok abort.Flush → GoesBy k m → ((first : Base) (s : State) → Shows first s m → HasAborted first s t r x)
      → IfOk r (λ y. y ≢ abort.Ended → SameStates m.core x.core)
      → LowersUndoing NoneAreLeft pages r (undo_steps m.core t) (undo_steps x.core t) → (NobodyCommits x → Eases x n) → GoesBy k n
  goes_flushed k m x n pages r is stood did states lowers eases =
      let same = subst (λ (o : Result AbortStepped Refusal). IfOk o (λ y. y ≢ abort.Ended → SameStates m.core x.core)) is states (λ e. cc) in
      let at_x = going_stays m x stood.0 (subst (λ (o : Result AbortStepped Refusal). (first : Base) (s : State) → Shows first s m → HasAborted first s t o x) is did) same in
      let work = subst (λ (o : Result AbortStepped Refusal). LowersUndoing NoneAreLeft pages o (undo_steps m.core t) (undo_steps x.core t)) is lowers in
      let e = eases (going_nobody x at_x) in
      let less = e.undo t in let before = stood.1 in
      (going_stays x n at_x e.state e.states, omega (arith, less, work, before))

  pub goes_refused : (k m n : Kernel D g) (pages : ℕ) (r : Result AbortStepped Refusal) (why : Refusal) → r ≡ Err why → GoesBy k m → ((first : Base) (s : State) → Shows first s m → HasAborted first s t r n)
      → OnErr r (SameStates m.core n.core)
      → LowersUndoing NoneAreLeft pages r (undo_steps m.core t) (undo_steps n.core t) → GoesBy k n
  goes_refused k m n pages r why is stood did states lowers =
      let before = stood.1 in
      let same = subst (λ (o : Result AbortStepped Refusal). OnErr o (SameStates m.core n.core)) is states in
      let work = subst (λ (o : Result AbortStepped Refusal). LowersUndoing NoneAreLeft pages o (undo_steps m.core t) (undo_steps n.core t)) is lowers in
      (going_stays m n stood.0 (subst (λ (o : Result AbortStepped Refusal). (first : Base) (s : State) → Shows first s m → HasAborted first s t o n) is did) same, omega (arith, work, before))

  pub goes_roomless : (k m x n : Kernel D g) (r : Result AbortStepped Refusal) (why : Refusal) → r ≡ Ok abort.Flush → GoesBy k m → ((first : Base) (s : State) → Shows first s m → HasAborted first s t r x)
      → IfOk r (λ y. y ≢ abort.Ended → SameStates m.core x.core)
      → (NobodyCommits x → Eases x n) → Fails n why → IsGivenUp p n why
  goes_roomless k m x n r why is stood did states eases fails =
      let same = subst (λ (o : Result AbortStepped Refusal). IfOk o (λ y. y ≢ abort.Ended → SameStates m.core x.core)) is states (λ e. cc) in
      let at_x = going_stays m x stood.0 (subst (λ (o : Result AbortStepped Refusal). (first : Base) (s : State) → Shows first s m → HasAborted first s t o x) is did) same in
      (going_left x n at_x (eases (going_nobody x at_x)).state, fails)

  pub back_from : (k m n : Kernel D g) (r : Result AbortStepped Refusal) → undo_steps m.core t ≤ undo_steps k.core t → IsBacked p t m r n → IsBacked p t k r n
  back_from k m n (Ok abort.More) less is = let now = is.1 in (is.0, omega (arith, now, less))
  back_from k m n (Ok (abort.Wait u)) less is = absurd is
  back_from k m n (Ok abort.Again) less is = absurd is
  back_from k m n (Ok abort.Flush) less is = absurd is
  back_from k m n (Ok abort.Ended) less is = is
  back_from k m n (Err why) less is = is

  pub goes_no_more : (k n : Kernel D g) → GoesBy k n → IsGivenUp p n refusal.NoMemory
  goes_no_more k n stood = (going_left n n stood.0 (λ first s shows. shows), λ other. absurd (other refl))
