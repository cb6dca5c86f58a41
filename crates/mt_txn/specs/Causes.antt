-- Which calls a kernel refuses before it asks locks, escrow, pages and log.
use Rattle.std.specs.Prelude.{ℕ, ℤ, ◌≡◌, ◌⊎◌, ◌<◌, ◌+◌, ◌||◌, ◌&&◌, ◌==◌, nat_lt, nat_le, nat_eq, if◌then◌else◌, Bool, true, false, List, length, Option, Some, None, Result, Ok, Err, ◌≤◌, int_le, pos, neg_ℤ, ⊤}
use Rattle.std.specs.List.{list_any}
use Rattle.mt_disk.specs.declared.device.Device.{Ghosts}
use Rattle.mt_base.specs.declared.limits.TheConstants.{MAX_BEGUN, MAX_COMMITS, MAX_KEY_BYTES, MAX_LIVE, MAX_OPERATIONS, MAX_STEP, MAX_VALUE_BYTES, TRANSACTION_LOG_BYTES}
use Rattle.mt_base.specs.Limits.{IsKey, IsValue, IsStep}
use Rattle.mt_base.specs.declared.refusal.Refusal.{Refusal}
use Rattle.mt_base.specs.declared.refusal.Refusal.TheVariants as refusal
use Rattle.mt_live.specs.Lives.{calls_of}
use Rattle.mt_live.specs.Members.{forward_count, standing_count}
use Rattle.mt_live.specs.declared.transactions.TxnState.{TxnState}
use Rattle.mt_live.specs.declared.transactions.TxnState.TheVariants.{Open, Returning, Aborting}
use Rattle.mt_log.specs.Words.{area_size}
use Rattle.mt_model.specs.declared.operations.Op.{Op}
use Rattle.mt_model.specs.declared.operations.Op.TheVariants.{Get, Insert, Update, Delete, Add, Read, Scan}
use Rattle.mt_core.specs.Consistent.{log_kept}
use Rattle.mt_core.specs.Runs.{state_in, is_returning}
use Rattle.mt_core.specs.declared.parts.Core.{Core}
use Rattle.mt_op.specs.declared.scope.OpScope.{OpScope}
use Rattle.mt_core.specs.Seen.{core_device, core_log, core_last}

-- the first of two causes
abbrev pub first_of : Option Refusal → Option Refusal → Option Refusal
first_of (Some why) later = Some why
first_of None later = later

abbrev pub unless : Bool → Refusal → Option Refusal
unless holds why = if holds then None else Some why

-- If there is a cause, a call is refused for it and for nothing else, and leaves what it was asked of as it was.
abbrev pub IsRefusedAtOnce : {K T : Type 0} → Option Refusal → K → Result T Refusal → K → Type 0
IsRefusedAtOnce cause k result n = (why : Refusal) → cause ≡ Some why → (result ≡ Err why) × (n ≡ k)

-- why a transaction cannot begin, if it cannot
abbrev pub begin_cause : {D : Type 0} → Bool → Core D → Option Refusal
begin_cause failed k =
    if failed then Some refusal.DeviceFailed else
    if nat_le MAX_LIVE (length k.live.members) then Some refusal.TooManyTransactions else
    if nat_le MAX_COMMITS (length k.book.items + length k.live.members) || nat_le MAX_BEGUN k.live.begun then Some
    refusal.BookFull else
    if nat_lt (log_kept k + TRANSACTION_LOG_BYTES) (area_size (core_log k)) then None else Some refusal.LogFull

-- the device failed in this call
abbrev pub IsFault : {D : Type 0} → Ghosts D → Core D → Core D → Refusal → Type 0
IsFault g k n why = (why ≡ refusal.DeviceFailed) × (g.faults (core_device k) < g.faults (core_device n))

-- it failed in this call, or before
abbrev pub IsFailure : {D : Type 0} → Ghosts D → Bool → Core D → Core D → Refusal → Type 0
IsFailure g failed k n why = ((failed ≡ true) × (why ≡ refusal.DeviceFailed)) ⊎ IsFault g k n why

-- ---- the transaction

abbrev pub is_open : Option TxnState → Bool
is_open (Some Open) = true
is_open _ = false

-- it is open, or goes back and then on
abbrev pub may_abort : Option TxnState → Bool
may_abort (Some Open) = true
may_abort (Some (Returning first)) = true
may_abort _ = false

abbrev pub is_aborting : Option TxnState → Bool
is_aborting (Some Aborting) = true
is_aborting _ = false

-- why a call that wants an open transaction is refused
abbrev pub open_cause : {D : Type 0} → Bool → Core D → ℕ → Option Refusal
open_cause failed k t =
    if failed then Some refusal.DeviceFailed else unless (is_open (state_in k.live.members t)) refusal.Stranger

-- why a transaction cannot begin to be undone, if it cannot
abbrev pub abort_begin_cause : {D : Type 0} → Bool → Core D → ℕ → Option Refusal
abort_begin_cause failed k t =
    if failed then Some refusal.DeviceFailed else unless (may_abort (state_in k.live.members t)) refusal.Stranger

-- why a step of an abort is
abbrev pub abort_cause : {D : Type 0} → Bool → Core D → ℕ → Option Refusal
abort_cause failed k t =
    if failed then Some refusal.DeviceFailed else unless (is_aborting (state_in k.live.members t)) refusal.Stranger

-- why a step of going back is
abbrev pub return_cause : {D : Type 0} → Bool → Core D → ℕ → Option Refusal
return_cause failed k t =
    if failed then Some refusal.DeviceFailed else unless (is_returning (state_in k.live.members t)) refusal.Stranger

-- whether an operation of it is under way
abbrev pub is_busy : {D : Type 0} → Core D → ℕ → Bool
is_busy k t = list_any (λ (r : OpScope). r.txn == t) k.running.items

abbrev pub busy_cause : {D : Type 0} → Core D → ℕ → Option Refusal
busy_cause k t = if is_busy k t then Some refusal.Busy else None

abbrev pub step_cause : {D : Type 0} → Bool → Core D → ℕ → Option Refusal
step_cause failed k t = first_of (open_cause failed k t) (unless (is_busy k t) refusal.Stranger)

abbrev pub commit_cause : {D : Type 0} → Bool → Core D → ℕ → Option Refusal
commit_cause failed k t = first_of (open_cause failed k t) (busy_cause k t)

-- fewer of its operations stand than it is to go back to
abbrev pub savepoint_cause : {D : Type 0} → Core D → ℕ → ℕ → Option Refusal
savepoint_cause k t first = unless (nat_le first (standing_count (calls_of k.live.members t))) refusal.BadSavepoint

-- Of so many that count the first can be gone back to; or there are fewer, which is what 19 says.
abbrev pub IsSavepoint : ℕ → ℕ → Result (Unit {0}) Refusal → Type 0
IsSavepoint count first (Ok done) = first ≤ count
IsSavepoint count first (Err refusal.BadSavepoint) = count < first
IsSavepoint count first (Err why) = ⊤

-- why it cannot go back to so many, if it cannot
abbrev pub back_cause : {D : Type 0} → Bool → Core D → ℕ → ℕ → Option Refusal
back_cause failed k t first = first_of (commit_cause failed k t) (savepoint_cause k t first)

-- why the pages cannot be surveyed, if they cannot
abbrev pub survey_cause : {D : Type 0} → Bool → Core D → Option Refusal
survey_cause failed k =
    if failed then Some refusal.DeviceFailed else if nat_eq (length k.live.members) 0 then None else Some refusal.Busy

-- As many of its operations have ended as it may call, those that it took back among them and not their inverses; or
-- 2^40 were called by all.
abbrev pub count_cause : {D : Type 0} → Core D → ℕ → Option Refusal
count_cause k t =
    if nat_le MAX_OPERATIONS (forward_count (calls_of k.live.members t)) || nat_le MAX_BEGUN (core_last k) then
    Some refusal.TooManyOperations else None

-- ---- the operation

abbrev pub is_key : List ℕ → Bool
is_key k = nat_le 1 (length k) && nat_le (length k) MAX_KEY_BYTES

abbrev pub is_value : List ℕ → Bool
is_value v = nat_le (length v) MAX_VALUE_BYTES

abbrev pub is_step : ℤ → Bool
is_step d =
    (int_le (pos 1) d && int_le d (pos MAX_STEP)) || (int_le (neg_ℤ (pos MAX_STEP)) d && int_le d (neg_ℤ (pos 1)))

-- its relation or counter is there
abbrev pub IsNamed : ℕ → ℕ → Op → Type 0
IsNamed relations counters (Get r k) = r < relations
IsNamed relations counters (Insert r k v) = r < relations
IsNamed relations counters (Update r k v) = r < relations
IsNamed relations counters (Delete r k) = r < relations
IsNamed relations counters (Add c d) = c < counters
IsNamed relations counters (Read c) = c < counters
IsNamed relations counters (Scan r) = r < relations

-- its key, value and step lie within their limits
abbrev pub IsSized : Op → Type 0
IsSized (Get r k) = IsKey k
IsSized (Insert r k v) = IsKey k × IsValue v
IsSized (Update r k v) = IsKey k × IsValue v
IsSized (Delete r k) = IsKey k
IsSized (Add c d) = IsStep d
IsSized (Read c) = Unit {0}
IsSized (Scan r) = Unit {0}

-- no such relation, or no such counter
abbrev pub name_cause : ℕ → ℕ → Op → Option Refusal
name_cause relations counters (Get r k) = unless (nat_lt r relations) refusal.NoSuchRelation
name_cause relations counters (Insert r k v) = unless (nat_lt r relations) refusal.NoSuchRelation
name_cause relations counters (Update r k v) = unless (nat_lt r relations) refusal.NoSuchRelation
name_cause relations counters (Delete r k) = unless (nat_lt r relations) refusal.NoSuchRelation
name_cause relations counters (Add c d) = unless (nat_lt c counters) refusal.NoSuchCounter
name_cause relations counters (Read c) = unless (nat_lt c counters) refusal.NoSuchCounter
name_cause relations counters (Scan r) = unless (nat_lt r relations) refusal.NoSuchRelation

-- a key, a value or a step past its limits
abbrev pub size_cause : Op → Option Refusal
size_cause (Get r k) = unless (is_key k) refusal.BadLength
size_cause (Insert r k v) = unless (is_key k && is_value v) refusal.BadLength
size_cause (Update r k v) = unless (is_key k && is_value v) refusal.BadLength
size_cause (Delete r k) = unless (is_key k) refusal.BadLength
size_cause (Add c d) = unless (is_step d) refusal.BadStep
size_cause (Read c) = None
size_cause (Scan r) = None

-- why a call is refused before its lock is asked for, if it is: the first cause in the order of the tests
abbrev pub call_cause : {D : Type 0} → ℕ → ℕ → Bool → Core D → ℕ → Op → Option Refusal
call_cause relations counters failed k t op =
    first_of (open_cause failed k t) (first_of (busy_cause k t)
    (first_of (count_cause k t) (first_of (name_cause relations counters op) (size_cause op))))

-- With what a call is refused: with 5 or 8 if a key, a value or a step is past its limits, and for no other cause; with
-- 6 or 7 if some schema lacks what is named; with 9 if it adds; or with 1, 2, 10, 11, 14, 15, 16 or 17.
abbrev pub IsCallRefusal : Op → Refusal → Type 0
IsCallRefusal op refusal.BadLength = size_cause op ≡ Some refusal.BadLength
IsCallRefusal op refusal.BadStep = size_cause op ≡ Some refusal.BadStep
IsCallRefusal op refusal.NoSuchRelation = (r c : ℕ) × (name_cause r c op ≡ Some refusal.NoSuchRelation)
IsCallRefusal op refusal.NoSuchCounter = (r c : ℕ) × (name_cause r c op ≡ Some refusal.NoSuchCounter)
IsCallRefusal (Add c d) refusal.Escrow = ⊤
IsCallRefusal op refusal.NoMemory = ⊤
IsCallRefusal op refusal.DeviceFailed = ⊤
IsCallRefusal op refusal.NoRoom = ⊤
IsCallRefusal op refusal.LogFull = ⊤
IsCallRefusal op (refusal.Die holder) = ⊤
IsCallRefusal op refusal.Stranger = ⊤
IsCallRefusal op refusal.Busy = ⊤
IsCallRefusal op refusal.TooManyOperations = ⊤
IsCallRefusal op _ = ⊥
