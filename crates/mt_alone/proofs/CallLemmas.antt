-- What is answered to an operation of a transaction that is alone.
use Rattle.std.proofs.Common.{◌≡◌, ◌≢◌, ◌≤◌, ◌+◌, ◌*◌, ◌⊎◌, ◌==◌, ◌||◌, inl, inr, ℕ, Bool, true, false, cond, List, [], ◌∷◌, ◌++◌, Option, Some, None, Result, Ok, Err, refl, ap, ap₂, sym, subst, ◌∙◌, arith}
use Rattle.std.specs.Prelude.{if◌then◌else◌, nat_le, nat_lt, ◌&&◌, ◌^◌, length}
use Rattle.std.specs.List.{list_any}
use mathlib.Core.Logic.{∥∥₁_elim, ∥∥₁_map}
use Rattle.std.proofs.Props.{props}
use Rattle.std.proofs.lemmas.Bool.Decides.{Decides-eqb}
use Rattle.mt_base.specs.declared.refusal.Refusal.{Refusal}
use Rattle.mt_base.specs.declared.refusal.Refusal.TheVariants as refusal
use Rattle.mt_disk.specs.declared.device.Device.{Ghosts}
use Rattle.mt_live.proofs.Alone.{alone_is_free}
use Rattle.mt_live.specs.Lives.{calls_of}
use Rattle.mt_live.specs.Members.{forward_count}
use Rattle.mt_live.specs.Machine.{State, called}
use Rattle.mt_model.specs.History.{Call, run}
use Rattle.mt_model.specs.Locks.{AreAllFree, BarsSome, Held}
use Rattle.mt_model.specs.Model.{Base, locks_of, reply_of}
use Rattle.mt_model.specs.declared.operations.Op.{Op}
use Rattle.mt_model.specs.declared.operations.Op.TheVariants.{Get, Insert, Update, Delete, Add, Read, Scan}
use Rattle.mt_model.specs.declared.operations.Reply.{Reply}
use Rattle.mt_op.specs.Work.{work_of}
use Rattle.mt_pool.specs.Views.{pages}
use Rattle.mt_slock.specs.Views.{held_of}
use Rattle.mt_core.specs.Causes.{IsRefusedCall}
use Rattle.mt_core.specs.Consistent.{Origin, IsAskedFor, SameStates, log_kept}
use Rattle.mt_core.specs.Work.{RunsBehind, steps_in}
use Rattle.mt_core.specs.declared.calls.Called.{Called}
use Rattle.mt_core.specs.declared.calls.Called.TheVariants as call
use Rattle.mt_core.specs.declared.parts.Core.{Core}
use Rattle.mt_op.specs.declared.scope.OpScope.{OpScope}
use Rattle.mt_txn.proofs.Showing.{kept_of}
use Rattle.mt_txn.specs.Causes.{call_cause, count_cause, first_of, is_key, is_step, is_value, name_cause, size_cause, unless}
use Rattle.mt_txn.specs.Events.{HasCalled, IsAnsweredBy}
use Rattle.mt_txn.specs.Shown.{Shows, is_failed}
use Rattle.mt_txn.specs.declared.kernel.Kernel.{Kernel}
use Rattle.mt_script.specs.declared.answers.Answer.TheVariants.{Replied, Refused}
use Rattle.mt_script.specs.declared.lines.Line.TheVariants as line
use Rattle.mt_alone.proofs.TurnLemmas.{answered_refused, left_of, opened_idle, opened_stays, open_is, turn_acts}
use Rattle.mt_alone.proofs.UndoLemmas.{pages_few}
use Rattle.mt_alone.specs.Driven.{HasBroken, IsCalling, IsDueTo, IsOpened, IsTested}
use Rattle.mt_model.specs.Backwards.{OpenCalls, with_one}
use Rattle.mt_alone.specs.Plays.{Play, IsTurn, is_add, with_call, IsCallWant}
use Rattle.mt_alone.specs.Runs.{IsAnsweredOr, refused_as}

-- ---- a fault is no failure of the device

unless_other : (b : Bool) (x y : Refusal) → (x ≡ y → ⊥) → unless b x ≡ Some y → ⊥
unless_other true x y other is = cc
unless_other false x y other is = other cc

two_other : (a b : Option Refusal) (y : Refusal) → (a ≡ Some y → ⊥) → (b ≡ Some y → ⊥) → first_of a b ≡ Some y → ⊥
two_other None b y left right is = right is
two_other (Some x) b y left right is = left is

name_sound : (relations counters : ℕ) (op : Op) → name_cause relations counters op ≡ Some refusal.DeviceFailed → ⊥
name_sound relations counters (Get r k) = unless_other (nat_lt r relations) refusal.NoSuchRelation refusal.DeviceFailed (λ e. cc)
name_sound relations counters (Insert r k v) = unless_other (nat_lt r relations) refusal.NoSuchRelation refusal.DeviceFailed (λ e. cc)
name_sound relations counters (Update r k v) = unless_other (nat_lt r relations) refusal.NoSuchRelation refusal.DeviceFailed (λ e. cc)
name_sound relations counters (Delete r k) = unless_other (nat_lt r relations) refusal.NoSuchRelation refusal.DeviceFailed (λ e. cc)
name_sound relations counters (Add c d) = unless_other (nat_lt c counters) refusal.NoSuchCounter refusal.DeviceFailed (λ e. cc)
name_sound relations counters (Read c) = unless_other (nat_lt c counters) refusal.NoSuchCounter refusal.DeviceFailed (λ e. cc)
name_sound relations counters (Scan r) = unless_other (nat_lt r relations) refusal.NoSuchRelation refusal.DeviceFailed (λ e. cc)

size_sound : (op : Op) → size_cause op ≡ Some refusal.DeviceFailed → ⊥
size_sound (Get r k) = unless_other (is_key k) refusal.BadLength refusal.DeviceFailed (λ e. cc)
size_sound (Insert r k v) = unless_other (is_key k && is_value v) refusal.BadLength refusal.DeviceFailed (λ e. cc)
size_sound (Update r k v) = unless_other (is_key k && is_value v) refusal.BadLength refusal.DeviceFailed (λ e. cc)
size_sound (Delete r k) = unless_other (is_key k) refusal.BadLength refusal.DeviceFailed (λ e. cc)
size_sound (Add c d) = unless_other (is_step d) refusal.BadStep refusal.DeviceFailed (λ e. cc)
size_sound (Read c) = λ e. cc
size_sound (Scan r) = λ e. cc

fault_sound : (relations counters : ℕ) (op : Op) → first_of (name_cause relations counters op) (size_cause op) ≡ Some refusal.DeviceFailed → ⊥
fault_sound relations counters op = two_other (name_cause relations counters op) (size_cause op) refusal.DeviceFailed (name_sound relations counters op) (size_sound op)

-- ---- the causes, one after the other

abbrev causes : Bool → Bool → Option Refusal → Option Refusal
causes failed many fault = first_of (if failed then Some refusal.DeviceFailed else None) (first_of (if many then Some refusal.TooManyOperations else None) fault)

cause_is : (failed many : Bool) (fault : Option Refusal) (op : Op) (y : Refusal) → (fault ≡ Some refusal.DeviceFailed → ⊥) → causes failed many fault ≡ Some y
    → ((y ≡ refusal.DeviceFailed) × (failed ≡ true)) ⊎ ((y ≢ refusal.DeviceFailed) × ((fault ≡ Some y) ⊎ IsCallWant op y))
cause_is true many fault op y sound is = inl (cc, refl)
cause_is false true fault op y sound is = inr (
  λ e. let wrong : refusal.TooManyOperations ≡ refusal.DeviceFailed = cc in cc,
  inr (let same : refusal.TooManyOperations ≡ y = cc in subst (IsCallWant op) same tt),
)
cause_is false false fault op y sound is = inr (λ e. sound (is ∙ ap (λ (x : Refusal). Some x) e), inl is)

no_fault : (failed many : Bool) (fault : Option Refusal) → causes failed many fault ≡ None → fault ≡ None
no_fault true many fault is = absurd cc
no_fault false true fault is = absurd cc
no_fault false false fault is = is

-- ---- what is wanting, where nobody is in the way of its locks

adds_only : {D : Type 0} (k : Core D) (t : ℕ) (op : Op) → ¬ IsAskedFor k.escrow t op → is_add op ≡ true
adds_only k t (Add c d) never = refl
adds_only k t (Get r x) never = absurd (never tt)
adds_only k t (Insert r x v) never = absurd (never tt)
adds_only k t (Update r x v) never = absurd (never tt)
adds_only k t (Delete r x) never = absurd (never tt)
adds_only k t (Read c) never = absurd (never tt)
adds_only k t (Scan r) never = absurd (never tt)

module _ {D : Type 0} (g : Ghosts D) (k : Core D) (t : ℕ) (op : Op) where
  abbrev IsRefusedIn : Refusal → Type 0
  IsRefusedIn why = ∥ ((origin : Origin) × IsRefusedCall g origin k (log_kept k) t op why) ∥₁

  want_of : (why : Refusal) → AreAllFree (held_of k.locks) t (locks_of op) → IsRefusedIn why → IsCallWant op why
  want_of refusal.NoMemory free x = tt
  want_of refusal.TooManyOperations free x = tt
  want_of refusal.NoRoom free x = tt
  want_of refusal.LogFull free x = tt
  want_of refusal.Escrow free x = ∥∥₁_elim x (hlevel props) (λ (origin, is). adds_only k t op is.1)
  want_of (refusal.Die holder) free x = ∥∥₁_elim x (hlevel props) (λ (origin, is). free holder is.0.bars)
  want_of _ free x = ∥∥₁_elim x (hlevel props) (λ (origin, is). is.1.1)

steps_behind : (t : ℕ) (r : OpScope) (rs : List OpScope) → list_any (λ (q : OpScope). q.txn == t) rs ≡ false → r.txn ≡ t → steps_in (rs ++ r ∷ []) t ≡ work_of r
steps_behind t r [] none own = ap (λ (b : Bool). cond b (work_of r) 0) ((Decides-eqb r.txn t).1 own)
steps_behind t r (q ∷ rs) none own = go (q.txn == t) refl (λ rest. steps_behind t r rs rest own)
  where
    go : (b : Bool) → (q.txn == t) ≡ b → (list_any (λ (x : OpScope). x.txn == t) rs ≡ false → steps_in (rs ++ r ∷ []) t ≡ work_of r) → steps_in ((q ∷ rs) ++ r ∷ []) t ≡ work_of r
    go true is later = absurd (
        let some : list_any (λ (x : OpScope). x.txn == t) (q ∷ rs) ≡ true = ap (λ (b : Bool). b || list_any (λ (x : OpScope). x.txn == t) rs) is in
        let wrong : true ≡ false = sym some ∙ none in cc)
    go false is later =
        let rest : list_any (λ (x : OpScope). x.txn == t) rs ≡ false = ap (λ (b : Bool). b || list_any (λ (x : OpScope). x.txn == t) rs) (sym is) ∙ none in
        ap (λ (b : Bool). cond b (work_of q) (steps_in (rs ++ r ∷ []) t)) is ∙ later rest

-- ---- a call

module _ {D : Type 0} {g : Ghosts D} (p : Play) (k : Kernel D g) (t : ℕ) (calls : OpenCalls) (op : Op) where
  abbrev pub many_of : Bool
  many_of = nat_le 256 (forward_count (calls_of k.core.live.members t)) || nat_le (2 ^ 40) k.core.last

  abbrev pub fault : Option Refusal
  fault = first_of (name_cause k.relations k.counters op) (size_cause op)

  call_is : IsOpened p t calls k → call_cause k.relations k.counters (is_failed k) k.core t op ≡ causes (is_failed k) many_of fault
  call_is o =
      ap₂ (λ (a b : Option Refusal). first_of a (first_of b (first_of (count_cause k.core t) fault))) (open_is k t o.state)
      (ap (λ (b : Bool). if b then Some refusal.Busy else None) (opened_idle p t calls k o))

  opened_free : IsOpened p t calls k → AreAllFree (held_of k.core.locks) t (locks_of op)
  opened_free o u bars = ∥∥₁_elim o.shown (hlevel props) (λ (first, s, shows, (played, alone)). ∥∥₁_elim (kept_of g k.relations k.counters k.core first s shows) (hlevel props) (λ kept.
      ∥∥₁_elim shows (hlevel props) (λ (origin, base, is, x).
      let same : held_of k.core.locks ≡ s.held = ap (λ (z : State). z.held) (sym x.state) in
      alone_is_free first s t p.session calls.all calls.counted kept alone (locks_of op) u (subst (λ (h : Held). BarsSome h t (locks_of op) u) same bars))))

  -- where it was not refused at once, it has no fault
  answered_late : (r : Result Called Refusal) (x : Called) → r ≡ Ok x → ((why : Refusal) → call_cause k.relations k.counters (is_failed k) k.core t op ≡ Some why → r ≡ Err why) → call_cause k.relations k.counters (is_failed k) k.core t op ≡ None
  answered_late r x is early = go (call_cause k.relations k.counters (is_failed k) k.core t op) refl
    where
      go : (c : Option Refusal) → call_cause k.relations k.counters (is_failed k) k.core t op ≡ c → c ≡ None
      go None e = refl
      go (Some y) e = absurd (let wrong : ◌≡◌ {A = Result Called Refusal} (Ok x) (Err y) = sym is ∙ early y e in cc)

  pub call_faultless : (r : Result Called Refusal) (x : Called) → r ≡ Ok x → IsOpened p t calls k → ((why : Refusal) → call_cause k.relations k.counters (is_failed k) k.core t op ≡ Some why → r ≡ Err why) → fault ≡ None
  call_faultless r x is o early = no_fault (is_failed k) many_of fault (sym (call_is o) ∙ answered_late r x is early)

  -- nobody is waited for
  pub call_waits : (r : Result Called Refusal) (holder : ℕ) → r ≡ Ok (call.Wait holder) → IsOpened p t calls k → ((why : Refusal) → call_cause k.relations k.counters (is_failed k) k.core t op ≡ Some why → r ≡ Err why)
      → (call_cause k.relations k.counters (is_failed k) k.core t op ≡ None → IsAnsweredBy k t op r) → ⊥
  call_waits r holder is o early answer =
      ∥∥₁_elim (subst (IsAnsweredBy k t op) is (answer (answered_late r (call.Wait holder) is early))) (hlevel props) (λ (origin, base, at, safe, said). opened_free o holder said.0.bars)

  pub call_started : (n : Kernel D g) → IsOpened p t calls k → ((first : Base) (s : State) → Shows first s k → Shows first (called s t op) n) → SameStates k.core n.core
      → RunsBehind t (2 * pages k.core.operations.store.pool + 9) k.core.running.items n.core.running.items → IsCalling p t calls op n × (steps_in n.core.running.items t ≤ 8009)
  call_started n o did states (r, own, steps, behind) = (
    record {
      shown = ∥∥₁_elim o.shown (hlevel props) (λ (first, s, shows, plays). ∥∥₁_map (kept_of g k.relations k.counters k.core first s shows) (λ kept. (first, s, kept, plays, did first s shows)));
      state = states t ∙ o.state;
    },
    ∥∥₁_elim o.shown (hlevel props) (λ (first, s, shows, plays).
        let few = pages_few k first s shows in
        let all : steps_in n.core.running.items t ≡ work_of r = ap (λ (rs : List OpScope). steps_in rs t) behind ∙ steps_behind t r k.core.running.items (opened_idle p t calls k o) own in
        omega (arith, few, all, steps)),
  )

  pub call_replied : (n : Kernel D g) (reply : Reply) → p.under_way ≡ Some calls → fault ≡ None → (reply ≡ reply_of (run p.base calls.all) op) × IsOpened p t (with_one calls (op, reply_of (run p.base calls.all) op)) n
      → IsAnsweredOr p k (Some t) (line.Call op) (Ok (Replied reply, Some t)) n
  call_replied n reply under none (is, opened) = (
    with_call p calls op,
    subst (λ (x : Reply). IsTurn k.relations k.counters (IsDueTo k (Some t)) p (line.Call op) (Replied x) (with_call p calls op)) (sym is) (turn_acts k.relations k.counters p (Some calls) (line.Call op) under none),
    (
      with_one calls (op, reply_of (run p.base calls.all) op),
      refl,
      record {
        shown = ∥∥₁_map opened.shown (λ (first, s, shows, plays). (first, s, shows, (record { first_is = plays.0.first_is; book = plays.0.book; base = plays.0.base }, plays.1)));
        state = opened.state;
      },
    ),
  )

  pub call_refused : (n : Kernel D g) (r : Result Called Refusal) (why : Refusal) → r ≡ Err why → p.under_way ≡ Some calls → IsOpened p t calls k
      → ((y : Refusal) → call_cause k.relations k.counters (is_failed k) k.core t op ≡ Some y → r ≡ Err y) → (call_cause k.relations k.counters (is_failed k) k.core t op ≡ None → IsAnsweredBy k t op r)
      → ((y : Refusal) → call_cause k.relations k.counters (is_failed k) k.core t op ≡ Some y → n ≡ k) → ((first : Base) (s : State) → Shows first s k → HasCalled first s t op r n) → SameStates k.core n.core
      → IsAnsweredOr p k (Some t) (line.Call op) (refused_as why (Some t)) n
  call_refused n r why is under o early answer unmoved did states =
      let stays = subst (λ (x : Result Called Refusal). (first : Base) (s : State) → Shows first s k → HasCalled first s t op x n) is did in
      let now = opened_stays p t calls k n o stays (states t) in
      let outcome = go (call_cause k.relations k.counters (is_failed k) k.core t op) refl in
      answered_refused p (Some calls) (line.Call op) (Some t) k n why under (calls, under, now) (left_of p (Some t) n (calls, under, now))
      (λ e. broken outcome e) (λ other. wants outcome other)
    where
      Reported : Type 0
      Reported = ((why ≡ refusal.DeviceFailed) × HasBroken n) ⊎ ((why ≢ refusal.DeviceFailed) × ((fault ≡ Some why) ⊎ IsCallWant op why))

      late : IsCallWant op why → Reported
      late want = inr (λ (e : why ≡ refusal.DeviceFailed). subst (IsCallWant op) e want, inr want)

      go : (c : Option Refusal) → call_cause k.relations k.counters (is_failed k) k.core t op ≡ c → Reported
      go None e = late (want_of g k.core t op why (opened_free o) (∥∥₁_map (subst (IsAnsweredBy k t op) is (answer e)) (λ (origin, base, at, safe, said). (origin, said))))
      go (Some y) e =
          let same : y ≡ why = let both : ◌≡◌ {A = Result Called Refusal} (Err y) (Err why) = sym (early y e) ∙ is in cc in
          by (cause_is (is_failed k) many_of fault op why (fault_sound k.relations k.counters op) (sym (call_is o) ∙ e ∙ ap (λ (x : Refusal). Some x) same))
        where
          by : ((why ≡ refusal.DeviceFailed) × (is_failed k ≡ true)) ⊎ ((why ≢ refusal.DeviceFailed) × ((fault ≡ Some why) ⊎ IsCallWant op why)) → Reported
          by (inl x) = inl (x.0, inl (ap (λ (z : Kernel D g). is_failed z) (unmoved y e) ∙ x.1))
          by (inr x) = inr x

      broken : Reported → why ≡ refusal.DeviceFailed → HasBroken n
      broken (inl x) e = x.1
      broken (inr x) e = absurd (x.0 e)

      tested : (c : Option Refusal) → call_cause k.relations k.counters (is_failed k) k.core t op ≡ c → IsTested k (Some t) (line.Call op) why
      tested None e = inr (e, subst (IsAnsweredBy k t op) is (answer e))
      tested (Some y) e = inl (let same : y ≡ why = let both : ◌≡◌ {A = Result Called Refusal} (Err y) (Err why) = sym (early y e) ∙ is in cc in e ∙ ap (λ (x : Refusal). Some x) same)

      due : (fault ≡ Some why) ⊎ IsCallWant op why → (fault ≡ Some why) ⊎ (IsCallWant op why × IsDueTo k (Some t) (line.Call op) why)
      due (inl x) = inl x
      due (inr want) = inr (want, inr (tested (call_cause k.relations k.counters (is_failed k) k.core t op) refl))

      wants : Reported → why ≢ refusal.DeviceFailed → (fault ≡ Some why) ⊎ (IsCallWant op why × IsDueTo k (Some t) (line.Call op) why)
      wants (inl x) other = absurd (other x.0)
      wants (inr x) other = due x.1
