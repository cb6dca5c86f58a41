-- What the kernel answers to the lines of a script that runs alone.
use Rattle.std.proofs.Common.{◌≡◌, ◌≢◌, ◌≤◌, ◌<◌, ◌+◌, ◌⊎◌, ◌==◌, ◌||◌, inl, inr, ℕ, Bool, true, false, cond, List, [], ◌∷◌, ◌++◌, Option, Some, None, length, Ok, refl, ap, ap₂, sym, subst, ◌∙◌, arith, length-append, filter, Err}
use Rattle.std.specs.Prelude.{if◌then◌else◌, nat_le, nat_lt, ◌^◌}
use Rattle.std.specs.List.{list_any}
use Rattle.std.specs.Option.{option_map}
use mathlib.Core.Logic.{∥∥₁_elim, ∥∥₁_map}
use Rattle.std.proofs.Props.{props}
use Rattle.mt_base.specs.declared.refusal.Refusal.{Refusal}
use Rattle.mt_base.specs.declared.refusal.Refusal.TheVariants as refusal
use Rattle.mt_disk.specs.declared.device.Device.{Ghosts}
use Rattle.mt_frame.specs.declared.records.Record.{Record}
use Rattle.mt_live.proofs.AddLemmas.{eq_self}
use Rattle.mt_live.proofs.Alone.{begins_alone}
use Rattle.mt_live.specs.Alone.{IsAlone}
use Rattle.mt_live.specs.Lives.{member_of, calls_of}
use Rattle.mt_live.specs.Machine.{State, begun}
use Rattle.mt_live.specs.Members.{Member, standing_count}
use Rattle.mt_live.specs.declared.transactions.TxnState.{TxnState}
use Rattle.mt_live.specs.declared.transactions.TxnState.TheVariants.{Open, Aborting, Returning}
use Rattle.mt_log.specs.Words.{appended, durable, in_flight, waiting}
use Rattle.mt_log.specs.declared.log.Log.{Log}
use Rattle.mt_model.specs.History.{Call}
use Rattle.mt_model.specs.Model.{Base}
use Rattle.mt_model.specs.declared.operations.Op.{Op}
use Rattle.mt_core.specs.Consistent.{SameRunning, SameStates, SetsState, log_kept}
use Rattle.mt_core.specs.Runs.{state_in}
use Rattle.mt_core.specs.Work.{undo_steps}
use Rattle.mt_core.specs.declared.parts.Commit.{Commit}
use Rattle.mt_op.specs.declared.scope.OpScope.{OpScope}
use Rattle.mt_txn.proofs.Living.{idle_of, no_commits}
use Rattle.mt_txn.proofs.Showing.{kept_of, parts_stay}
use Rattle.mt_txn.specs.Causes.{begin_cause, commit_cause, first_of, is_busy, is_open, open_cause, unless, abort_begin_cause, may_abort, back_cause, savepoint_cause, IsSavepoint}
use Rattle.mt_txn.specs.Shown.{SameSchema, Shows, Stays, is_failed}
use Rattle.mt_txn.specs.declared.kernel.Kernel.{Kernel}
use Rattle.mt_script.specs.declared.answers.Answer.TheVariants.{Begun, Saved, Back as WentBack, Committed, Refused}
use Rattle.mt_script.specs.declared.lines.Line.{Line}
use Rattle.mt_script.specs.declared.lines.Line.TheVariants as line
use Rattle.mt_alone.proofs.DriveLemmas.{nobody_commits, nobody_there}
use Rattle.mt_txn.proofs.Due.{due_start}
use Rattle.mt_alone.proofs.ForceLemmas.{fails_for, well_of}
use Rattle.mt_alone.proofs.UndoLemmas.{undo_few}
use Rattle.mt_alone.specs.Driven.{Fails, HasBroken, IsBeside, IsDueTo, IsEnding, IsGivenUp, IsGoing, IsLeft, IsOpened, IsResting, IsTested, NobodyCommits, IsPlaying, IsReturning}
use Rattle.mt_model.specs.Backwards.{OpenCalls, no_calls}
use Rattle.mt_alone.specs.Plays.{Play, IsTurn, acts, refuses, after_at, answer_at, back_on, committed, fault_at, returned_to, IsBeginWant, IsWant}
use Rattle.mt_alone.specs.Runs.{IsAnsweredOr, refused_as}
use Rattle.std.proofs.lemmas.Bool.{le-leb, lt-leb}
use Rattle.std.proofs.lemmas.List.{length-map}
use Rattle.mt_live.specs.Undoing.{is_counted}
use Rattle.mt_live.specs.Entries.{Entry}

-- ---- a turn, by what is under way

pub turn_acts : {IsDue : Line → Refusal → Type 0} → (relations counters : ℕ) (p : Play) (u : Option OpenCalls) (l : Line) → p.under_way ≡ u → fault_at relations counters u l ≡ None
    → IsTurn relations counters IsDue p l (answer_at p u l) (after_at p u l)
turn_acts {IsDue = IsDue} relations counters p u l is = subst (λ (v : Option OpenCalls). fault_at relations counters v l ≡ None → IsTurn relations counters IsDue p l (answer_at p v l) (after_at p v l)) is acts

turn_refuses : {IsDue : Line → Refusal → Type 0} → (relations counters : ℕ) (p : Play) (u : Option OpenCalls) (l : Line) (why : Refusal) → p.under_way ≡ u → (fault_at relations counters u l ≡ Some why) ⊎ (IsWant u l why × IsDue l why)
    → IsTurn relations counters IsDue p l (Refused why) p
turn_refuses {IsDue = IsDue} relations counters p u l why is =
    subst (λ (v : Option OpenCalls). (fault_at relations counters v l ≡ Some why) ⊎ (IsWant v l why × IsDue l why) → IsTurn relations counters IsDue p l (Refused why) p) is (refuses why)

no_member : (o : Option Member) → option_map (λ (m : Member). m.session) o ≡ None → o ≡ None
no_member None is = refl
no_member (Some m) is = absurd cc

no_members : (ms : List Member) → ((u : ℕ) → member_of ms u ≡ None) → length ms ≡ 0
no_members [] none = refl
no_members (m ∷ ms) none =
    let own : member_of (m ∷ ms) m.number ≡ Some m = ap (λ (b : Bool). cond b (Some m) (member_of ms m.number)) (eq_self m.number) in
    let e : Some m ≡ None = sym own ∙ none m.number in absurd cc

begin_want : (a c d : Bool) (n : ℕ) (why : Refusal) → n ≡ 0 → why ≢ refusal.DeviceFailed
    → (if a then Some refusal.DeviceFailed else if nat_le 64 n then Some refusal.TooManyTransactions else if c then Some refusal.BookFull else if d then None else Some refusal.LogFull) ≡ Some why → IsBeginWant why
begin_want a c d n why none other is = go a c d (sym (ap (λ (i : ℕ). if a then Some refusal.DeviceFailed else if nat_le 64 i then Some refusal.TooManyTransactions else if c then Some refusal.BookFull else if d then None else Some refusal.LogFull) none) ∙ is)
  where
    go : (a c d : Bool) → (if a then Some refusal.DeviceFailed else if nat_le 64 0 then Some refusal.TooManyTransactions else if c then Some refusal.BookFull else if d then None else Some refusal.LogFull) ≡ Some why → IsBeginWant why
    go true c d e = absurd (other (let same : refusal.DeviceFailed ≡ why = cc in sym same))
    go false true d e = let same : refusal.BookFull ≡ why = cc in subst IsBeginWant same tt
    go false false true e = absurd cc
    go false false false e = let same : refusal.LogFull ≡ why = cc in subst IsBeginWant same tt

waits_in : (l : Log) (before : List Record) (r : Record) → waiting l ≡ before ++ r ∷ [] → length (durable l) < length (appended l)
waits_in l before r is =
    let some : length (waiting l) ≡ length before + 1 = ap (λ (rs : List Record). length rs) is ∙ length-append before (r ∷ []) in
    let a = length-append (durable l) (in_flight l ++ waiting l) in
    let b = length-append (in_flight l) (waiting l) in omega (arith, some, a, b)

module _ {D : Type 0} {g : Ghosts D} where
  -- a refusal is an answer, unless the device has failed
  pub answered_refused : (p : Play) (u : Option OpenCalls) (l : Line) (live : Option ℕ) (k n : Kernel D g) (why : Refusal) → p.under_way ≡ u → IsBeside p live n → IsLeft p n
      → (why ≡ refusal.DeviceFailed → HasBroken n) → (why ≢ refusal.DeviceFailed → (fault_at k.relations k.counters u l ≡ Some why) ⊎ (IsWant u l why × IsDueTo k live l why))
      → IsAnsweredOr p k live l (refused_as why live) n
  answered_refused p u l live k n refusal.DeviceFailed under beside left broken wants = (left, λ other. (refl, broken refl))
  answered_refused p u l live k n why under beside left broken wants = (p, turn_refuses k.relations k.counters p u l _ under (wants (λ e. cc)), beside)

  -- memory alone is wanted without a test
  due_of : (k : Kernel D g) (live : Option ℕ) (l : Line) (why : Refusal) → (why ≢ refusal.NoMemory → IsTested k live l why) → IsDueTo k live l why
  due_of k live l refusal.NoMemory tested = inl refl
  due_of k live l why tested = inr (tested (λ e. cc))

  -- ---- transports

  pub left_of : (p : Play) (live : Option ℕ) (k : Kernel D g) → IsBeside p live k → IsLeft p k
  left_of p None k b = ∥∥₁_map b.shown (λ (first, s, shows, (played, nobody)). (first, s, shows, played))
  left_of p (Some t) k (calls, under, o) = ∥∥₁_map o.shown (λ (first, s, shows, (played, alone)). (first, s, shows, played))

  pub opened_stays : (p : Play) (t : ℕ) (calls : OpenCalls) (k n : Kernel D g) → IsOpened p t calls k → Stays k n → state_in n.core.live.members t ≡ state_in k.core.live.members t → IsOpened p t calls n
  opened_stays p t calls k n o stays same = record {
    shown = ∥∥₁_map o.shown (λ (first, s, shows, plays). (first, s, stays first s shows, plays));
    state = same ∙ o.state;
  }

  pub resting_stays : (p : Play) (k n : Kernel D g) → IsResting p k → Stays k n → IsResting p n
  resting_stays p k n r stays = record {
    shown = ∥∥₁_map r.shown (λ (first, s, shows, plays). (first, s, stays first s shows, plays));
    nothing = r.nothing;
  }

  -- ---- where one is open, nobody else is there

  opened_nobody : (p : Play) (t : ℕ) (calls : OpenCalls) (k : Kernel D g) → IsOpened p t calls k → NobodyCommits k
  opened_nobody p t calls k o u is = ∥∥₁_elim o.shown (hlevel props) (λ (first, s, shows, (played, alone)).
      nobody_commits k first s t Open shows alone.others o.state (λ e. cc) u is)

  pub opened_idle : (p : Play) (t : ℕ) (calls : OpenCalls) (k : Kernel D g) → IsOpened p t calls k → is_busy k.core t ≡ false
  opened_idle p t calls k o = ∥∥₁_elim o.shown (hlevel props) (λ (first, s, shows, (played, alone)).
      idle_of g k.relations k.counters k.core first s shows t o.state alone.idle)

  -- an open transaction is refused only where the device has failed
  pub open_is : (k : Kernel D g) (t : ℕ) → state_in k.core.live.members t ≡ Some Open → open_cause (is_failed k) k.core t ≡ (if is_failed k then Some refusal.DeviceFailed else None)
  open_is k t state = ap (λ (o : Option TxnState). if is_failed k then Some refusal.DeviceFailed else unless (is_open o) refusal.Stranger) state

  abort_is : (k : Kernel D g) (t : ℕ) → state_in k.core.live.members t ≡ Some Open → abort_begin_cause (is_failed k) k.core t ≡ (if is_failed k then Some refusal.DeviceFailed else None)
  abort_is k t state = ap (λ (o : Option TxnState). if is_failed k then Some refusal.DeviceFailed else unless (may_abort o) refusal.Stranger) state

  open_failed : (k n : Kernel D g) (t : ℕ) (why : Refusal) (c : Option Refusal) → (c ≡ (if is_failed k then Some refusal.DeviceFailed else None)) → ((y : Refusal) → c ≡ Some y → n ≡ k) → (why ≢ refusal.NoMemory → c ≡ Some why) → Fails n why
  open_failed k n t why c is stands cause = fails_for k n why c is stands (λ other. inl (cause other))

  -- ---- a begin

  resting_few : (p : Play) (k : Kernel D g) → IsResting p k → length k.core.live.members ≡ 0
  resting_few p k r = ∥∥₁_elim r.shown (hlevel props) (λ (first, s, shows, (played, nobody)). ∥∥₁_elim shows (hlevel props) (λ (origin, base, is, x).
      no_members k.core.live.members (λ u. no_member (member_of k.core.live.members u) (ap (λ (z : State). z.sessions u) (sym x.state) ∙ nobody u))))

  begin_wants : (k : Kernel D g) (why : Refusal) → length k.core.live.members ≡ 0 → why ≢ refusal.DeviceFailed → (why ≢ refusal.NoMemory → begin_cause (is_failed k) k.core ≡ Some why) → IsBeginWant why
  begin_wants k refusal.NoMemory none other cause = tt
  begin_wants k why none other cause = begin_want (is_failed k) (nat_le 1000000 (length k.core.book.items + length k.core.live.members) || nat_le (2 ^ 40) k.core.live.begun) (nat_lt (log_kept k.core + 128) _) (length k.core.live.members) _ none other (cause (λ e. cc))

  pub begin_refused : (p : Play) (k n : Kernel D g) (why : Refusal) → IsResting p k → n.core ≡ k.core → SameSchema k n → (why ≡ refusal.DeviceFailed → is_failed n ≡ true) → (why ≢ refusal.NoMemory → begin_cause (is_failed k) k.core ≡ Some why)
      → IsAnsweredOr p k None line.Begin (refused_as why None) n
  begin_refused p k n why r same schema failed cause =
      let none = resting_few p k r in
      let now = resting_stays p k n r (parts_stay k n same schema) in
      answered_refused p None line.Begin None k n why r.nothing now (left_of p None n now) (λ is. inl (failed is))
      (λ other. inr (begin_wants k why none other cause, due_of k None line.Begin why cause))

  pub begin_done : (p : Play) (k n : Kernel D g) (session txn : ℕ) → p.session ≡ session → IsResting p k → txn ≡ k.core.live.begun + 1 → ((first : Base) (s : State) → Shows first s k → Shows first (begun s session) n)
      → SetsState k.core n.core txn (Some Open) → IsAnsweredOr p k None line.Begin (Ok (Begun, Some txn)) n
  begin_done p k n session txn own r number did opened = (
    record p { under_way = Some no_calls },
    turn_acts k.relations k.counters p None line.Begin r.nothing refl,
    (
      no_calls,
      refl,
      record {
        shown = ∥∥₁_elim r.shown (hlevel props) (λ (first, s, shows, (played, nobody)). ∥∥₁_elim (kept_of g k.relations k.counters k.core first s shows) (hlevel props) (λ kept.
            ∣ (
              first,
              begun s session,
              did first s shows,
              (
                record { first_is = played.first_is; book = played.book; base = played.base },
                subst (λ (X : Type 0). X) (λ i. IsAlone (begun s session) (next_is first s shows i) (sym own i) [] []) (begins_alone first s session kept nobody),
              ),
            ) ∣₁));
        state = opened txn ∙ ap (λ (b : Bool). cond b (Some Open) (state_in k.core.live.members txn)) (eq_self txn);
      },
    ),
  )
    where
      next_is : (first : Base) (s : State) → Shows first s k → s.next ≡ txn
      next_is first s shows = ∥∥₁_elim shows (hlevel props) (λ (origin, base, is, x). ap (λ (z : State). z.next) x.state ∙ sym number)

  -- ---- a commit

  none_of : (p : Play) (k : Kernel D g) (t : ℕ) (calls : OpenCalls) → IsOpened p t calls k → k.core.commits.items ≡ []
  none_of p k t calls o = ∥∥₁_elim o.shown (hlevel props) (λ (first, s, shows, plays). no_commits g k.relations k.counters k.core (well_of k first s shows) (opened_nobody p t calls k o))

  book_of : (p : Play) (k : Kernel D g) (t : ℕ) (calls : OpenCalls) → IsOpened p t calls k → length k.core.book.items ≡ length p.book
  book_of p k t calls o = ∥∥₁_elim o.shown (hlevel props) (λ (first, s, shows, (played, alone)). ∥∥₁_elim shows (hlevel props) (λ (origin, base, is, x).
      ap (λ (z : State). length z.book) (sym x.state) ∙ ap (λ (cs : _). length cs) played.book))

  pub commit_ends : (p : Play) (k n : Kernel D g) (t : ℕ) (calls : OpenCalls) → IsOpened p t calls k → Stays k n
      → ((c : Commit) × (c.txn ≡ t) × (c.place ≡ length (appended n.core.operations.store.log)) × (n.core.commits.items ≡ k.core.commits.items ++ c ∷ []))
      → (r : Record) → waiting n.core.operations.store.log ≡ waiting k.core.operations.store.log ++ r ∷ [] → IsEnding p t calls 8 n
  commit_ends p k n t calls o stays (c, own, place, queue) r waits = record {
    shown = ∥∥₁_map o.shown (λ (first, s, shows, plays). (first, s, stays first s shows, plays));
    commit = c;
    queue = queue ∙ ap (λ (cs : List Commit). cs ++ c ∷ []) (none_of p k t calls o);
    own = own;
    waits = subst (λ (i : ℕ). length (durable n.core.operations.store.log) < i) (sym place) (waits_in n.core.operations.store.log (waiting k.core.operations.store.log) r waits);
    due = due_start c.place n.core.operations.store.log (let at = place in omega (arith, at));
  }

  pub commit_done : (p : Play) (k n : Kernel D g) (t place : ℕ) (calls : OpenCalls) → p.under_way ≡ Some calls → IsOpened p t calls k → place ≡ length k.core.book.items + length k.core.commits.items + 1 → IsResting (committed p calls) n
      → IsAnsweredOr p k (Some t) line.Commit (Ok (Committed place, None)) n
  commit_done p k n t place calls under o is ended =
      let many : length k.core.commits.items ≡ 0 = ap (λ (cs : List Commit). length cs) (none_of p k t calls o) in
      let book = book_of p k t calls o in
      let at : length p.book + 1 ≡ place = omega (arith, is, many, book) in
      (committed p calls, subst (λ (i : ℕ). IsTurn k.relations k.counters (IsDueTo k (Some t)) p line.Commit (Committed i) (committed p calls)) at (turn_acts k.relations k.counters p (Some calls) line.Commit under refl), ended)

  commit_cause_is : (k : Kernel D g) (t : ℕ) → state_in k.core.live.members t ≡ Some Open → is_busy k.core t ≡ false → commit_cause (is_failed k) k.core t ≡ (if is_failed k then Some refusal.DeviceFailed else None)
  commit_cause_is k t state idle = ap₂ (λ (o : Option TxnState) (b : Bool). first_of (if is_failed k then Some refusal.DeviceFailed else unless (is_open o) refusal.Stranger) (if b then Some refusal.Busy else None)) state idle ∙ by (is_failed k)
    where
      by : (c : Bool) → first_of (if c then Some refusal.DeviceFailed else None) None ≡ (if c then Some refusal.DeviceFailed else None)
      by true = refl
      by false = refl

  failing_want : (n : Kernel D g) (why : Refusal) → Fails n why → why ≢ refusal.DeviceFailed → why ≡ refusal.NoMemory
  failing_want n refusal.NoMemory fails other = refl
  failing_want n why fails other = absurd (other (fails (λ e. cc)).0)

  pub commit_refused : (p : Play) (k n : Kernel D g) (t : ℕ) (calls : OpenCalls) (why : Refusal) → p.under_way ≡ Some calls → IsOpened p t calls k → Stays k n → SameStates k.core n.core
      → (why ≢ refusal.NoMemory → commit_cause (is_failed k) k.core t ≡ Some why) → ((y : Refusal) → commit_cause (is_failed k) k.core t ≡ Some y → n ≡ k) → IsAnsweredOr p k (Some t) line.Commit (refused_as why (Some t)) n
  commit_refused p k n t calls why under o stays states cause unmoved =
      let now = opened_stays p t calls k n o stays (states t) in
      let fails = open_failed k n t why (commit_cause (is_failed k) k.core t) (commit_cause_is k t o.state (opened_idle p t calls k o)) unmoved cause in
      answered_refused p (Some calls) line.Commit (Some t) k n why under (calls, under, now) (left_of p (Some t) n (calls, under, now))
      (λ is. (fails (λ e. let wrong : refusal.DeviceFailed ≡ refusal.NoMemory = sym is ∙ e in cc)).1) (λ other. let want = failing_want n why fails other in inr (want, inl want))

  -- ---- a count, and the way back

  -- a cause that is none but that the device has failed
  failed_alone : (k : Kernel D g) (c : Option Refusal) (why : Refusal) → c ≡ (if is_failed k then Some refusal.DeviceFailed else None) → c ≡ Some why → (why ≡ refusal.DeviceFailed) × (is_failed k ≡ true)
  failed_alone k c why is cause = go (is_failed k) refl (sym is ∙ cause)
    where
      go : (b : Bool) → is_failed k ≡ b → (if b then Some refusal.DeviceFailed else None) ≡ Some why → (why ≡ refusal.DeviceFailed) × (is_failed k ≡ true)
      go true failed e = let same : refusal.DeviceFailed ≡ why = cc in (sym same, failed)
      go false failed e = absurd cc

  count_of : (k : Kernel D g) (p : Play) (t : ℕ) (calls : OpenCalls) (first : Base) (s : State) → IsPlaying first p t calls s → length (filter (is_counted t) s.standing) ≡ length calls.counted
  count_of k p t calls first s plays = sym (length-map (filter (is_counted t) s.standing) (λ (e : Entry). (e.op, e.reply))) ∙ ap (λ (cs : List Call). length cs) plays.1.counted_are

  pub save_done : (p : Play) (k : Kernel D g) (t count : ℕ) (calls : OpenCalls) → p.under_way ≡ Some calls → IsOpened p t calls k → ((first : Base) (s : State) → Shows first s k → count ≡ length (filter (is_counted t) s.standing))
      → IsAnsweredOr p k (Some t) line.Save (Ok (Saved count, Some t)) k
  save_done p k t count calls under o is =
      let many : count ≡ length calls.counted = ∥∥₁_elim o.shown (hlevel props) (λ (first, s, shows, plays). is first s shows ∙ count_of k p t calls first s plays) in
      (p, subst (λ (i : ℕ). IsTurn k.relations k.counters (IsDueTo k (Some t)) p line.Save (Saved i) p) (sym many) (turn_acts k.relations k.counters p (Some calls) line.Save under refl), (calls, under, o))

  -- what an open transaction is refused for that runs nothing: the device has failed
  pub idle_refused : (p : Play) (k n : Kernel D g) (t : ℕ) (calls : OpenCalls) (l : Line) (why : Refusal) → p.under_way ≡ Some calls → IsOpened p t calls k → n ≡ k → commit_cause (is_failed k) k.core t ≡ Some why
      → IsAnsweredOr p k (Some t) l (refused_as why (Some t)) n
  idle_refused p k n t calls l why under o same cause =
      let now = subst (λ (x : Kernel D g). IsOpened p t calls x) (sym same) o in
      let failed = failed_alone k (commit_cause (is_failed k) k.core t) why (commit_cause_is k t o.state (opened_idle p t calls k o)) cause in
      answered_refused p (Some calls) l (Some t) k n why under (calls, under, now) (left_of p (Some t) n (calls, under, now)) (λ is. inl (ap (λ (x : Kernel D g). is_failed x) same ∙ failed.1)) (λ other. absurd (other failed.0))

  pub back_goes : (p : Play) (k m : Kernel D g) (t n : ℕ) (calls : OpenCalls) → IsOpened p t calls k → Stays k m → SetsState k.core m.core t (Some (Returning n)) → IsReturning p t n calls m
  back_goes p k m t n calls o stays sets = record {
    shown = ∥∥₁_map o.shown (λ (first, s, shows, plays). (first, s, stays first s shows, record { calls = calls; playing = plays; leads = refl }));
    state = sets t ∙ ap (λ (b : Bool). cond b (Some (Returning n)) (state_in k.core.live.members t)) (eq_self t);
  }

  pub back_few : (p : Play) (k m : Kernel D g) (t n : ℕ) (calls : OpenCalls) → IsOpened p t calls k → Stays k m → SetsState k.core m.core t (Some (Returning n)) → SameRunning k.core m.core → undo_steps m.core t ≤ 5054310
  back_few p k m t n calls o stays sets running = ∥∥₁_elim o.shown (hlevel props) (λ (first, s, shows, (played, alone)).
      let idle : is_busy m.core t ≡ false = ap (λ (rs : List OpScope). list_any (λ (r : OpScope). r.txn == t) rs) running ∙ opened_idle p t calls k o in
      let state : state_in m.core.live.members t ≡ Some (Returning n) = sets t ∙ ap (λ (b : Bool). cond b (Some (Returning n)) (state_in k.core.live.members t)) (eq_self t) in
      undo_few m first s t (stays first s shows) (nobody_commits m first s t (Returning n) (stays first s shows) alone.others state (λ e. cc)) idle
      (λ u other lives. nobody_there m first s (stays first s shows) u (alone.others u other) lives))

  -- it may go back to so many, if they are no more than count
  back_fault : (k : Kernel D g) (calls : OpenCalls) (n : ℕ) → n ≤ length calls.counted → fault_at k.relations k.counters (Some calls) (line.Back n) ≡ None
  back_fault k calls n few = ap (λ (b : Bool). if b then None else Some refusal.BadSavepoint) (le-leb n (length calls.counted) few)

  pub back_done : (p : Play) (k m : Kernel D g) (t n : ℕ) (calls : OpenCalls) → p.under_way ≡ Some calls → IsOpened p t calls k → ((first : Base) (s : State) → Shows first s k → n ≤ length (filter (is_counted t) s.standing))
      → IsOpened p t (back_on p.base calls n) m → IsAnsweredOr p k (Some t) (line.Back n) (Ok (WentBack n, Some t)) m
  back_done p k m t n calls under o may now =
      let few : n ≤ length calls.counted = ∥∥₁_elim o.shown (hlevel props) (λ (first, s, shows, plays). subst (λ (i : ℕ). n ≤ i) (count_of k p t calls first s plays) (may first s shows)) in
      (returned_to p calls n, turn_acts k.relations k.counters p (Some calls) (line.Back n) under (back_fault k calls n few), (back_on p.base calls n, refl, record { shown = ∥∥₁_map now.shown (λ (first, s, shows, (played, alone)). (first, s, shows, (record { first_is = played.first_is; book = played.book; base = played.base }, alone))); state = now.state }))

  pub back_refused : (p : Play) (k m : Kernel D g) (t n : ℕ) (calls : OpenCalls) (why : Refusal) → p.under_way ≡ Some calls → IsOpened p t calls k → m ≡ k → back_cause (is_failed k) k.core t n ≡ Some why
      → ((first : Base) (s : State) → Shows first s k → IsSavepoint (length (filter (is_counted t) s.standing)) n (Err why)) → IsAnsweredOr p k (Some t) (line.Back n) (refused_as why (Some t)) m
  back_refused p k m t n calls why under o same cause bound =
      let now = subst (λ (x : Kernel D g). IsOpened p t calls x) (sym same) o in
      let which = back_why (is_failed k) refl (sym (ap (λ (c : Option Refusal). first_of c (savepoint_cause k.core t n)) (commit_cause_is k t o.state (opened_idle p t calls k o))) ∙ cause) in
      answered_refused p (Some calls) (line.Back n) (Some t) k m why under (calls, under, now) (left_of p (Some t) m (calls, under, now))
      (λ is. inl (ap (λ (x : Kernel D g). is_failed x) same ∙ which.0 is)) (λ other. inl (fault why (which.1 other) bound))
    where
      back_why : (b : Bool) → is_failed k ≡ b → first_of (if b then Some refusal.DeviceFailed else None) (savepoint_cause k.core t n) ≡ Some why → (why ≡ refusal.DeviceFailed → is_failed k ≡ true) × (why ≢ refusal.DeviceFailed → why ≡ refusal.BadSavepoint)
      back_why true failed e = let same : refusal.DeviceFailed ≡ why = cc in ((λ is. failed), (λ other. absurd (other (sym same))))
      back_why false failed e = short (nat_le n (standing_count (calls_of k.core.live.members t))) e
        where
          short : (c : Bool) → unless c refusal.BadSavepoint ≡ Some why → (why ≡ refusal.DeviceFailed → is_failed k ≡ true) × (why ≢ refusal.DeviceFailed → why ≡ refusal.BadSavepoint)
          short true e = absurd cc
          short false e = let same : refusal.BadSavepoint ≡ why = cc in ((λ is. absurd (let not : refusal.BadSavepoint ≡ refusal.DeviceFailed = same ∙ is in cc)), (λ other. sym same))

      fault : (y : Refusal) → y ≡ refusal.BadSavepoint → ((first : Base) (s : State) → Shows first s k → IsSavepoint (length (filter (is_counted t) s.standing)) n (Err y)) → fault_at k.relations k.counters (Some calls) (line.Back n) ≡ Some y
      fault y is bound_y =
          let low : length calls.counted < n = ∥∥₁_elim o.shown (hlevel props) (λ (first, s, shows, plays). subst (λ (i : ℕ). i < n) (count_of k p t calls first s plays)
          (subst (λ (z : Refusal). IsSavepoint (length (filter (is_counted t) s.standing)) n (Err z)) is (bound_y first s shows))) in
          ap (λ (b : Bool). if b then None else Some refusal.BadSavepoint) (lt-leb n (length calls.counted) low) ∙ ap Some (sym is)

  -- ---- an abort

  pub abort_goes : (p : Play) (k n : Kernel D g) (t : ℕ) (calls : OpenCalls) → IsOpened p t calls k → Stays k n → SetsState k.core n.core t (Some Aborting) → IsGoing p t n
  abort_goes p k n t calls o stays sets = record {
    shown = ∥∥₁_map o.shown (λ (first, s, shows, (played, alone)). (first, s, stays first s shows, record { played = played; others = alone.others }));
    state = sets t ∙ ap (λ (b : Bool). cond b (Some Aborting) (state_in k.core.live.members t)) (eq_self t);
  }

  pub abort_few : (p : Play) (k n : Kernel D g) (t : ℕ) (calls : OpenCalls) → IsOpened p t calls k → Stays k n → SetsState k.core n.core t (Some Aborting) → SameRunning k.core n.core → undo_steps n.core t ≤ 5054310
  abort_few p k n t calls o stays sets running = ∥∥₁_elim o.shown (hlevel props) (λ (first, s, shows, (played, alone)).
      let idle : is_busy n.core t ≡ false = ap (λ (rs : List OpScope). list_any (λ (r : OpScope). r.txn == t) rs) running ∙ opened_idle p t calls k o in
      let state : state_in n.core.live.members t ≡ Some Aborting = sets t ∙ ap (λ (b : Bool). cond b (Some Aborting) (state_in k.core.live.members t)) (eq_self t) in
      undo_few n first s t (stays first s shows) (nobody_commits n first s t Aborting (stays first s shows) alone.others state (λ e. cc)) idle
      (λ u other lives. nobody_there n first s (stays first s shows) u (alone.others u other) lives))

  pub abort_refused : (p : Play) (k n : Kernel D g) (t : ℕ) (calls : OpenCalls) (why : Refusal) → IsOpened p t calls k → n ≡ k → abort_begin_cause (is_failed k) k.core t ≡ Some why → IsGivenUp p n why
  abort_refused p k n t calls why o same cause = (
    subst (λ (x : Kernel D g). IsLeft p x) (sym same) (∥∥₁_map o.shown (λ (first, s, shows, (played, alone)). (first, s, shows, played))),
    open_failed k n t why (abort_begin_cause (is_failed k) k.core t) (abort_is k t o.state) (λ y is. same) (λ other. cause),
  )

-- without a transaction there is nothing to call, to go back in, to commit or to abort
pub stranger : {IsDue : Line → Refusal → Type 0} → (relations counters : ℕ) (p : Play) (l : Line) → p.under_way ≡ None
    → ((op : Op) × (l ≡ line.Call op)) ⊎ ((l ≡ line.Save) ⊎ (((n : ℕ) × (l ≡ line.Back n)) ⊎ ((l ≡ line.Commit) ⊎ (l ≡ line.Abort)))) → IsTurn relations counters IsDue p l (Refused refusal.Stranger) p
stranger {IsDue = IsDue} relations counters p l none which = go which
  where
    acts_so : (x : Line) → fault_at relations counters None x ≡ None → answer_at p None x ≡ Refused refusal.Stranger → after_at p None x ≡ p → l ≡ x → IsTurn relations counters IsDue p l (Refused refusal.Stranger) p
    acts_so x fault answer stays is = subst (λ (X : Type 0). X) (λ i. IsTurn relations counters IsDue p (sym is i) (answer i) (stays i)) (turn_acts relations counters p None x none fault)

    go : ((op : Op) × (l ≡ line.Call op)) ⊎ ((l ≡ line.Save) ⊎ (((n : ℕ) × (l ≡ line.Back n)) ⊎ ((l ≡ line.Commit) ⊎ (l ≡ line.Abort)))) → IsTurn relations counters IsDue p l (Refused refusal.Stranger) p
    go (inl (op, is)) = acts_so (line.Call op) refl refl refl is
    go (inr (inl is)) = acts_so line.Save refl refl refl is
    go (inr (inr (inl (n, is)))) = acts_so (line.Back n) refl refl refl is
    go (inr (inr (inr (inl is)))) = acts_so line.Commit refl refl refl is
    go (inr (inr (inr (inr is)))) = acts_so line.Abort refl refl refl is
