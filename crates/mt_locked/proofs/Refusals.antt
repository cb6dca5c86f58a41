-- With what a kernel refuses a call.
use Rattle.std.proofs.Common.{◌≡◌, ⊎_elim, ℕ, Bool, true, false, List, Option, Some, None, Result, Ok, Err, refl, rules, sym, subst, ℤ}
use Rattle.std.proofs.Props.{props}
use Rattle.std.specs.Prelude.{◌≢◌, if◌then◌else◌, nat_lt}
use mathlib.Core.Logic.{∥∥₁_elim}
use Rattle.mt_disk.specs.declared.device.Device.{Ghosts}
use Rattle.mt_base.specs.Limits.{IsStep}
use Rattle.mt_base.specs.declared.refusal.Refusal.{Refusal}
use Rattle.mt_base.specs.declared.refusal.Refusal.TheVariants as refusal
use Rattle.mt_core.specs.Runs.{is_returning, state_in}
use Rattle.mt_core.specs.declared.calls.Called.{Called}
use Rattle.mt_core.specs.declared.parts.Core.{Core}
use Rattle.mt_inverse.specs.Steps.{IsWithinSteps}
use Rattle.mt_model.specs.declared.operations.Op.{Op}
use Rattle.mt_model.specs.declared.operations.Op.TheVariants.{Get, Insert, Update, Delete, Add, Read, Scan}
use Rattle.mt_txn.specs.Causes.{IsCallRefusal, IsFault, abort_begin_cause, abort_cause, back_cause, busy_cause, call_cause, commit_cause, count_cause, first_of, is_aborting, is_busy, is_open, is_step, may_abort, name_cause, open_cause, return_cause, savepoint_cause, size_cause, step_cause, unless}
use Rattle.mt_txn.specs.Events.{AnswersIn}
use Rattle.mt_txn.specs.Seen.{KernelSeen, has_failed_in}
use Rattle.mt_txn.specs.declared.answers.AbortStepped.{AbortStepped}
use Rattle.mt_txn.specs.declared.answers.Stepped.{Stepped}
use Rattle.mt_locked.specs.Asked.{DidAbort, DidAbortStep, DidBack, DidBackStep, DidBegin, DidCall, DidCommit, DidStep}
use Rattle.mt_locked.specs.Refusals.{IsAbortRefusal, IsBackRefusal, IsBeginRefusal, IsCloseRefusal, IsCommitRefusal, IsRoomRefusal}
use Rattle.mt_locked.specs.Seen.{IsAskedOf, LockedSeen, PassSeen}
use Rattle.mt_locked.specs.Whole.{IsCloseCause}

-- ---- what is so of each cause is so of the first one

first_is : (P : Refusal → Type 0) (a b : Option Refusal) (w : Refusal) → (a ≡ Some w → P w) → (b ≡ Some w → P w) → first_of a b ≡ Some w → P w
first_is P (Some x) b w here there is = here is
first_is P None b w here there is = there is

if_is : (P : Refusal → Type 0) (b : Bool) (why w : Refusal) (rest : Option Refusal) → P why → (rest ≡ Some w → P w) → (if b then Some why else rest) ≡ Some w → P w
if_is P true why w rest here there is = subst P (let same : why ≡ w = cc in same) here
if_is P false why w rest here there is = there is

unless_is : (P : Refusal → Type 0) (b : Bool) (why w : Refusal) → P why → unless b why ≡ Some w → P w
unless_is P true why w here is = absurd (cc)
unless_is P false why w here is = subst P (let same : why ≡ w = cc in same) here

none_is : (P : Refusal → Type 0) (w : Refusal) → None ≡ Some w → P w
none_is P w is = absurd (cc)

module _ {D : Type 0} (P : Refusal → Type 0) (failed : Bool) (k : Core D) (t : ℕ) (w : Refusal) (device : P refusal.DeviceFailed) (stranger : P refusal.Stranger) where
  open_is : open_cause failed k t ≡ Some w → P w
  open_is = if_is P failed refusal.DeviceFailed w (unless (is_open (state_in k.live.members t)) refusal.Stranger) device (unless_is P (is_open (state_in k.live.members t)) refusal.Stranger w stranger)

  begins_abort : abort_begin_cause failed k t ≡ Some w → P w
  begins_abort = if_is P failed refusal.DeviceFailed w (unless (may_abort (state_in k.live.members t)) refusal.Stranger) device (unless_is P (may_abort (state_in k.live.members t)) refusal.Stranger w stranger)

  abort_is : abort_cause failed k t ≡ Some w → P w
  abort_is = if_is P failed refusal.DeviceFailed w (unless (is_aborting (state_in k.live.members t)) refusal.Stranger) device (unless_is P (is_aborting (state_in k.live.members t)) refusal.Stranger w stranger)

  busy_is : P refusal.Busy → busy_cause k t ≡ Some w → P w
  busy_is busy = if_is P (is_busy k t) refusal.Busy w None busy (none_is P w)

  step_is : step_cause failed k t ≡ Some w → P w
  step_is = first_is P (open_cause failed k t) (unless (is_busy k t) refusal.Stranger) w open_is (unless_is P (is_busy k t) refusal.Stranger w stranger)

  commit_is : P refusal.Busy → commit_cause failed k t ≡ Some w → P w
  commit_is busy = first_is P (open_cause failed k t) (busy_cause k t) w open_is (busy_is busy)

  returning_is : return_cause failed k t ≡ Some w → P w
  returning_is = if_is P failed refusal.DeviceFailed w (unless (is_returning (state_in k.live.members t)) refusal.Stranger) device (unless_is P (is_returning (state_in k.live.members t)) refusal.Stranger w stranger)

  back_is : P refusal.Busy → P refusal.BadSavepoint → (first : ℕ) → back_cause failed k t first ≡ Some w → P w
  back_is busy savepoint first = first_is P (commit_cause failed k t) (savepoint_cause k t first) w (commit_is busy) (unless_is P _ refusal.BadSavepoint w savepoint)

-- ---- an operation

name_is : (P : Refusal → Type 0) (relations counters : ℕ) (op : Op) (w : Refusal) → P refusal.NoSuchRelation → P refusal.NoSuchCounter → name_cause relations counters op ≡ Some w → P w
name_is P relations counters (Get r k) w relation counter = unless_is P (nat_lt r relations) refusal.NoSuchRelation w relation
name_is P relations counters (Insert r k v) w relation counter = unless_is P (nat_lt r relations) refusal.NoSuchRelation w relation
name_is P relations counters (Update r k v) w relation counter = unless_is P (nat_lt r relations) refusal.NoSuchRelation w relation
name_is P relations counters (Delete r k) w relation counter = unless_is P (nat_lt r relations) refusal.NoSuchRelation w relation
name_is P relations counters (Add c d) w relation counter = unless_is P (nat_lt c counters) refusal.NoSuchCounter w counter
name_is P relations counters (Read c) w relation counter = unless_is P (nat_lt c counters) refusal.NoSuchCounter w counter
name_is P relations counters (Scan r) w relation counter = unless_is P (nat_lt r relations) refusal.NoSuchRelation w relation

size_is : (P : Refusal → Type 0) (op : Op) (w : Refusal) → P refusal.BadLength → P refusal.BadStep → size_cause op ≡ Some w → P w
size_is P (Get r k) w length step = unless_is P _ refusal.BadLength w length
size_is P (Insert r k v) w length step = unless_is P _ refusal.BadLength w length
size_is P (Update r k v) w length step = unless_is P _ refusal.BadLength w length
size_is P (Delete r k) w length step = unless_is P _ refusal.BadLength w length
size_is P (Add c d) w length step = unless_is P _ refusal.BadStep w step
size_is P (Read c) w length step = none_is P w
size_is P (Scan r) w length step = none_is P w

cause_refuses : {D : Type 0} → (relations counters : ℕ) (failed : Bool) (k : Core D) (t : ℕ) (op : Op) (w : Refusal) → call_cause relations counters failed k t op ≡ Some w → IsCallRefusal op w
cause_refuses relations counters failed k t op w =
    let P : Refusal → Type 0 = IsCallRefusal op in
    first_is P (open_cause failed k t) _ w (open_is P failed k t w tt tt)
    (first_is P (busy_cause k t) _ w (if_is P (is_busy k t) refusal.Busy w None tt (none_is P w))
    (first_is P (count_cause k t) _ w (if_is P _ refusal.TooManyOperations w None tt (none_is P w))
    (first_is P (name_cause relations counters op) (size_cause op) w
    (λ named. name_is (λ x. name_cause relations counters op ≡ Some x → P x) relations counters op w (λ e. (relations, counters, e)) (λ e. (relations, counters, e)) named named)
    (λ sized. size_is (λ x. size_cause op ≡ Some x → P x) op w (λ e. e) (λ e. e) sized sized))))

module _ {D : Type 0} (g : Ghosts D) (relations counters : ℕ) (k : Core D) (t : ℕ) where
  abbrev Answers : Op → Refusal → Type 0
  Answers op w = AnswersIn g relations counters k t op (Err w)

  adds : (op : Op) → Answers op refusal.Escrow → IsCallRefusal op refusal.Escrow
  adds (Add c d) x = tt
  adds (Get r q) x = ∥∥₁_elim x (hlevel props) (λ (origin, base, is, in_it, answered). answered.1 tt)
  adds (Insert r q v) x = ∥∥₁_elim x (hlevel props) (λ (origin, base, is, in_it, answered). answered.1 tt)
  adds (Update r q v) x = ∥∥₁_elim x (hlevel props) (λ (origin, base, is, in_it, answered). answered.1 tt)
  adds (Delete r q) x = ∥∥₁_elim x (hlevel props) (λ (origin, base, is, in_it, answered). answered.1 tt)
  adds (Read c) x = ∥∥₁_elim x (hlevel props) (λ (origin, base, is, in_it, answered). answered.1 tt)
  adds (Scan r) x = ∥∥₁_elim x (hlevel props) (λ (origin, base, is, in_it, answered). answered.1 tt)

  answer_refuses : (op : Op) (w : Refusal) → Answers op w → IsCallRefusal op w
  answer_refuses op refusal.NoMemory x = tt
  answer_refuses op refusal.DeviceFailed x = tt
  answer_refuses op refusal.Escrow x = adds op x
  answer_refuses op refusal.NoRoom x = tt
  answer_refuses op refusal.LogFull x = tt
  answer_refuses op (refusal.Die holder) x = tt
  answer_refuses op refusal.Stranger x = tt
  answer_refuses op refusal.Busy x = tt
  answer_refuses op refusal.TooManyOperations x = tt
  answer_refuses op _ x = absurd (let never : ⊥ = ∥∥₁_elim x (hlevel props) (λ (origin, base, is, in_it, answered). answered.1.1) in never)

-- ---- what was asked

-- none stands, or the kernel answered so
asked_is : {D : Type 0} → (T : Type 0) (P : Refusal → Type 0) (o n : Option (KernelSeen D)) (w : Refusal) (Did : KernelSeen D → KernelSeen D → Type 0) → P refusal.DeviceFailed
    → ((k m : KernelSeen D) → Did k m → P w) → IsAskedOf {T = T} o (Err w) n Did → P w
asked_is T P None n w Did device did asked = subst P (let is = asked.0 in let same : refusal.DeviceFailed ≡ w = cc in same) device
asked_is T P (Some k) n w Did device did asked = did k asked.0 asked.2

-- what is so of 1, and of each other refusal if it is not 1
memory_or : (P : Refusal → Type 0) (w : Refusal) → P refusal.NoMemory → ((w ≢ refusal.NoMemory) → P w) → P w
memory_or P refusal.NoMemory memory other = memory
memory_or P _ memory other = other (λ e. absurd (cc))

fault_is : {D : Type 0} (P : Refusal → Type 0) (g : Ghosts D) (k n : Core D) (w : Refusal) → P refusal.DeviceFailed → IsFault g k n w → P w
fault_is P g k n w device fault = subst P (sym fault.0) device

module _ {D : Type 0} (w : Refusal) (o n : Option (KernelSeen D)) where
  module _ (g : Ghosts D) where
    pub begin_refused : (session : ℕ) → IsAskedOf {T = ℕ} o (Err w) n (λ k m. DidBegin g k session (Err w) m) → IsBeginRefusal w
    begin_refused session = let P : Refusal → Type 0 = IsBeginRefusal in
        asked_is _ P o n w _ tt (λ k m a. memory_or P w tt (λ other.
        if_is P (has_failed_in k) refusal.DeviceFailed w _ tt (if_is P _ refusal.TooManyTransactions w _ tt (if_is P _ refusal.BookFull w _ tt (unless_is P _ refusal.LogFull w tt))) (a.answers.refused.why other)))

    pub commit_refused : (t : ℕ) → IsAskedOf {T = ℕ} o (Err w) n (λ k m. DidCommit g k t (Err w) m) → IsCommitRefusal w
    commit_refused t = let P : Refusal → Type 0 = IsCommitRefusal in
        asked_is _ P o n w _ tt (λ k m a. memory_or P w tt (λ other. commit_is P (has_failed_in k) k.core t w tt tt tt (a.answers.refused.why other)))

    pub abort_refused : (t : ℕ) → IsAskedOf {T = Unit {0}} o (Err w) n (λ k m. DidAbort g k t (Err w) m) → IsAbortRefusal w
    abort_refused t = let P : Refusal → Type 0 = IsAbortRefusal in
        asked_is _ P o n w _ tt (λ k m a. begins_abort P (has_failed_in k) k.core t w tt tt a.answers.why)

    pub call_refused : (t : ℕ) (op : Op) → IsAskedOf {T = Called} o (Err w) n (λ k m. DidCall g k t op (Err w) m) → IsCallRefusal op w
    call_refused t op = asked_is _ (IsCallRefusal op) o n w _ tt did
      where
        did : (k m : KernelSeen D) → DidCall g k t op (Err w) m → IsCallRefusal op w
        did k m a = go (call_cause k.relations k.counters (has_failed_in k) k.core t op) refl
          where
            go : (c : Option Refusal) → call_cause k.relations k.counters (has_failed_in k) k.core t op ≡ c → IsCallRefusal op w
            go None none = answer_refuses g k.relations k.counters k.core t op w (a.answers.answer none)
            go (Some x) some = subst (IsCallRefusal op) (let is = (a.answers.early x some).0 in let same : x ≡ w = cc in same) (cause_refuses k.relations k.counters (has_failed_in k) k.core t op x some)

    pub step_refused : (t : ℕ) → w ≢ refusal.NoMemory → IsAskedOf {T = Stepped} o (Err w) n (λ k m. DidStep g k t (Err w) m) → IsAbortRefusal w
    step_refused t other = let P : Refusal → Type 0 = IsAbortRefusal in
        asked_is _ P o n w _ tt (λ k m a. ⊎_elim (step_is P (has_failed_in k) k.core t w tt tt) (fault_is P g k.core m.core w tt) (a.answers.why other))

    pub undo_refused : (t : ℕ) → w ≢ refusal.NoMemory → IsAskedOf {T = AbortStepped} o (Err w) n (λ k m. DidAbortStep g k t (Err w) m) → IsAbortRefusal w
    undo_refused t other = let P : Refusal → Type 0 = IsAbortRefusal in
        asked_is _ P o n w _ tt (λ k m a. ⊎_elim (abort_is P (has_failed_in k) k.core t w tt tt) (fault_is P g k.core m.core w tt) (a.answers.why other))

    pub back_refused : (t first : ℕ) → IsAskedOf {T = Unit {0}} o (Err w) n (λ k m. DidBack g k t first (Err w) m) → IsBackRefusal w
    back_refused t first = let P : Refusal → Type 0 = IsBackRefusal in
        asked_is _ P o n w _ tt (λ k m a. back_is P (has_failed_in k) k.core t w tt tt tt tt first a.answers.why)

    pub return_refused : (t : ℕ) → w ≢ refusal.NoMemory → IsAskedOf {T = AbortStepped} o (Err w) n (λ k m. DidBackStep g k t (Err w) m) → IsAbortRefusal w
    return_refused t other = let P : Refusal → Type 0 = IsAbortRefusal in
        asked_is _ P o n w _ tt (λ k m a. ⊎_elim (returning_is P (has_failed_in k) k.core t w tt tt) (fault_is P g k.core m.core w tt) (a.answers.why other))

-- a step refuses its operation
pub step_calls : (op : Op) (w : Refusal) → IsAbortRefusal w → IsCallRefusal op w
step_calls op refusal.DeviceFailed is = tt
step_calls op refusal.Stranger is = tt
step_calls op _ is = absurd is

-- and a way back
pub step_returns : (w : Refusal) → IsAbortRefusal w → IsBackRefusal w
step_returns refusal.DeviceFailed is = tt
step_returns refusal.Stranger is = tt
step_returns _ is = absurd is

-- what makes no room is a cause of each step that asks for it, but for want of memory
pub room_undoes : (w : Refusal) → w ≢ refusal.NoMemory → IsRoomRefusal w → IsAbortRefusal w
room_undoes refusal.NoMemory other is = absurd (other refl)
room_undoes refusal.DeviceFailed other is = tt
room_undoes _ other is = absurd is

-- what is not closed is refused with a refusal of its own
pub close_refused : {D : Type 0} (l : LockedSeen D) (passes : List PassSeen) (w : Refusal) → IsCloseCause l passes w → IsCloseRefusal w
close_refused l passes refusal.DeviceFailed is = tt
close_refused l passes refusal.Stranger is = tt
close_refused l passes refusal.Busy is = tt
close_refused l passes _ is = absurd is

-- ---- what was started

unless_none : (b : Bool) (why : Refusal) → unless b why ≡ None → b ≡ true
unless_none true why none = refl
unless_none false why none = absurd (cc)

step_within : (d : ℤ) → is_step d ≡ true → IsStep d
step_within d is = search (rules, is)

-- an inverse of an operation within its limits can be named
pub sized_steps : (op : Op) → size_cause op ≡ None → IsWithinSteps op
sized_steps (Add c d) sized = step_within d (unless_none (is_step d) refusal.BadStep sized)
sized_steps _ sized = tt

ok_is : {T : Type 0} (x : T) (w : Refusal) → ◌≡◌ {A = Result T Refusal} (Ok x) (Err w) → ⊥
ok_is x w is = cc

last_none : (a b : Option Refusal) → first_of a b ≡ None → b ≡ None
last_none None b is = is
last_none (Some x) b is = absurd (cc)

none_sized : {D : Type 0} → (relations counters : ℕ) (failed : Bool) (k : Core D) (t : ℕ) (op : Op) → call_cause relations counters failed k t op ≡ None → size_cause op ≡ None
none_sized relations counters failed k t op none =
    last_none (name_cause relations counters op) (size_cause op) (last_none (count_cause k t) _ (last_none (busy_cause k t) _ (last_none (open_cause failed k t) _ none)))

-- an operation that was not refused lies within its limits
pub call_sized : {D : Type 0} → (g : Ghosts D) (o n : Option (KernelSeen D)) (t : ℕ) (op : Op) (x : Called) → IsAskedOf {T = Called} o (Ok x) n (λ k m. DidCall g k t op (Ok x) m) → size_cause op ≡ None
call_sized g None n t op x asked = absurd (ok_is x refusal.DeviceFailed asked.0)
call_sized g (Some k) n t op x asked = go (call_cause k.relations k.counters (has_failed_in k) k.core t op) refl
  where
    go : (c : Option Refusal) → call_cause k.relations k.counters (has_failed_in k) k.core t op ≡ c → size_cause op ≡ None
    go None none = none_sized k.relations k.counters (has_failed_in k) k.core t op none
    go (Some w) some = absurd (ok_is x w (asked.2.answers.early w some).0)
