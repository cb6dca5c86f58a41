-- Which calls are refused with 2: those of a kernel that has failed.
use Rattle.std.proofs.Common.{◌≡◌, ℕ, Bool, true, false, List, Option, Some, None, Err, refl}
use Rattle.std.specs.Prelude.{nat_lt, if◌then◌else◌}
use Rattle.mt_disk.specs.declared.device.Device.{Ghosts}
use Rattle.mt_base.specs.declared.refusal.Refusal.{Refusal}
use Rattle.mt_base.specs.declared.refusal.Refusal.TheVariants as refusal
use Rattle.mt_core.specs.Causes.{IsAnswered}
use Rattle.mt_core.specs.Consistent.{Origin}
use Rattle.mt_core.specs.Runs.{state_in}
use Rattle.mt_core.specs.declared.parts.Core.{Core}
use Rattle.mt_model.specs.declared.operations.Op.{Op}
use Rattle.mt_model.specs.declared.operations.Op.TheVariants.{Get, Insert, Update, Delete, Add, Read, Scan}
use Rattle.mt_txn.specs.Causes.{busy_cause, call_cause, count_cause, first_of, is_busy, is_key, is_open, is_step, name_cause, size_cause, unless}

-- no cause that is 2
abbrev IsFine : Option Refusal → Type 0
IsFine cause = cause ≡ Some refusal.DeviceFailed → ⊥

first_fine : (a b : Option Refusal) → IsFine a → IsFine b → IsFine (first_of a b)
first_fine (Some why) b fine other is = fine is
first_fine None b fine other is = other is

one_fine : (b : Bool) (why : Refusal) → (why ≡ refusal.DeviceFailed → ⊥) → IsFine (if b then Some why else None)
one_fine true why other is = other (let same : why ≡ refusal.DeviceFailed = cc in same)
one_fine false why other is = cc

unless_fine : (b : Bool) (why : Refusal) → (why ≡ refusal.DeviceFailed → ⊥) → IsFine (unless b why)
unless_fine true why other is = cc
unless_fine false why other is = other (let same : why ≡ refusal.DeviceFailed = cc in same)

name_fine : (relations counters : ℕ) (op : Op) → IsFine (name_cause relations counters op)
name_fine relations counters (Get r k) = unless_fine (nat_lt r relations) refusal.NoSuchRelation (λ e. cc)
name_fine relations counters (Insert r k v) = unless_fine (nat_lt r relations) refusal.NoSuchRelation (λ e. cc)
name_fine relations counters (Update r k v) = unless_fine (nat_lt r relations) refusal.NoSuchRelation (λ e. cc)
name_fine relations counters (Delete r k) = unless_fine (nat_lt r relations) refusal.NoSuchRelation (λ e. cc)
name_fine relations counters (Add c d) = unless_fine (nat_lt c counters) refusal.NoSuchCounter (λ e. cc)
name_fine relations counters (Read c) = unless_fine (nat_lt c counters) refusal.NoSuchCounter (λ e. cc)
name_fine relations counters (Scan r) = unless_fine (nat_lt r relations) refusal.NoSuchRelation (λ e. cc)

size_fine : (op : Op) → IsFine (size_cause op)
size_fine (Get r k) = unless_fine (is_key k) refusal.BadLength (λ e. cc)
size_fine (Insert r k v) = unless_fine _ refusal.BadLength (λ e. cc)
size_fine (Update r k v) = unless_fine _ refusal.BadLength (λ e. cc)
size_fine (Delete r k) = unless_fine (is_key k) refusal.BadLength (λ e. cc)
size_fine (Add c d) = unless_fine (is_step d) refusal.BadStep (λ e. cc)
size_fine (Read c) = λ is. cc
size_fine (Scan r) = λ is. cc

open_fails : (failed opened : Bool) (later : Option Refusal) → IsFine later → first_of (if failed then Some refusal.DeviceFailed else unless opened refusal.Stranger) later ≡ Some refusal.DeviceFailed → failed ≡ true
open_fails true opened later fine is = refl
open_fails false true later fine is = absurd (fine is)
open_fails false false later fine is = absurd cc

-- a call that a test refuses with 2 is of a kernel that has failed
pub call_fails : {D : Type 0} → (relations counters : ℕ) (failed : Bool) (k : Core D) (t : ℕ) (op : Op) → call_cause relations counters failed k t op ≡ Some refusal.DeviceFailed → failed ≡ true
call_fails relations counters failed k t op =
    open_fails failed (is_open (state_in k.live.members t)) _
    (first_fine (busy_cause k t) _ (one_fine (is_busy k t) refusal.Busy (λ e. cc))
    (first_fine (count_cause k t) _ (one_fine _ refusal.TooManyOperations (λ e. cc)) (first_fine (name_cause relations counters op) (size_cause op) (name_fine relations counters op) (size_fine op))))

-- locks, escrow, pages and log refuse none with 2
pub answered_fine : {D : Type 0} → (g : Ghosts D) (origin : Origin) (k : Core D) (kept t : ℕ) (op : Op) → IsAnswered g origin k kept t op (Err refusal.DeviceFailed) → ⊥
answered_fine g origin k kept t op answered = answered.1.1
