-- What asking for a page lock does to an operation.
use Rattle.std.specs.Prelude.{◌≡◌, ◌≢◌, ◌⊎◌, ◌<◌, ◌≤◌, ◌++◌, ◌∷◌, [], ℕ, List, Option, None, Some, IsSome, Result, Ok, Err, All, Contains, true}
use Rattle.mt_base.specs.declared.limits.TheConstants.{MAX_RELATIONS}
use Rattle.mt_base.specs.declared.modes.Mode.{Mode}
use Rattle.mt_base.specs.declared.modes.Mode.TheVariants.{Read, Write}
use Rattle.mt_base.specs.declared.refusal.Refusal.{Refusal}
use Rattle.mt_index.specs.declared.answers.Search.TheVariants.{Start}
use Rattle.mt_model.specs.Model.{IsWithin}
use Rattle.mt_model.specs.declared.operations.Op.{Op}
use Rattle.mt_model.specs.declared.operations.Reply.{Reply}
use Rattle.mt_plock.specs.Holding.{lock_of, IsLeastHolder}
use Rattle.mt_plock.specs.declared.guards.PageLock.{PageLock}
use Rattle.mt_plock.specs.Releasing.{locks_without}
use Rattle.mt_space.specs.Changes.{IsUntouched}
use Rattle.mt_space.specs.declared.changes.PageChange.{PageChange}
use Rattle.mt_file.specs.Rooms.{fits_of, Takes}
use Rattle.mt_steps.specs.Asks.{AsksFor}
use Rattle.mt_steps.specs.Plans.{InPages, IsPlanned, record_bytes}
use Rattle.mt_op.specs.World.{World, looked, looked_bytes}
use Rattle.mt_op.specs.Moves.{SameOp, SamePlan, Locks, Rests, Leaves}
use Rattle.mt_op.specs.Operations.{only_reads}
use Rattle.mt_op.specs.declared.scope.OpScope.{OpScope}
use Rattle.mt_op.specs.declared.scope.Stage.TheVariants.{Planning, Writing}
use Rattle.mt_op.specs.declared.answers.Stepped.{Stepped}
use Rattle.mt_op.specs.declared.answers.Stepped.TheVariants as stepped

-- as before, in whatever room its lists have
pub record Stays (s t : OpScope) : Type 0 where
  pub plan : SamePlan s t
  pub search : t.search ≡ s.search
  pub stage : t.stage ≡ s.stage
  pub written : t.written ≡ s.written
  pub standing : t.standing ≡ s.standing
  pub left : t.left ≡ s.left

-- as before, but for a guard more
pub record Holds (s t : OpScope) (p : ℕ) (mode : Mode) : Type 0 where
  pub op : SameOp s t
  pub stage : t.stage ≡ s.stage
  pub room : t.room ≡ s.room
  pub guards : t.guards.items ≡ s.guards.items ++ lock_of s.number p mode ∷ []
  pub seen : t.seen.list.items ≡ s.seen.list.items
  pub search : t.search ≡ s.search
  pub changes : t.changes ≡ s.changes
  pub reply : t.reply ≡ s.reply
  pub written : t.written ≡ s.written
  pub standing : t.standing ≡ s.standing
  pub left : t.left ≡ s.left

-- as at its beginning, with no lock and nothing looked at
pub record IsAnew (s t : OpScope) : Type 0 where
  pub op : SameOp s t
  pub stage : t.stage ≡ s.stage
  pub room : t.room ≡ None
  pub guards : t.guards.items ≡ []
  pub seen : t.seen.list.items ≡ []
  pub search : t.search ≡ Start
  pub changes : t.changes ≡ s.changes
  pub reply : t.reply ≡ s.reply
  pub written : t.written ≡ s.written
  pub standing : t.standing ≡ s.standing
  pub left : t.left ≡ s.left

-- its plan is made, and it is to write; nothing else of it has changed
pub record IsMade (s t : OpScope) : Type 0 where
  pub op : SameOp s t
  pub planning : s.stage ≡ Planning
  pub stage : t.stage ≡ Writing
  pub room : t.room ≡ s.room
  pub guards : t.guards.items ≡ s.guards.items
  pub seen : t.seen.list.items ≡ s.seen.list.items
  pub written : t.written ≡ s.written
  pub standing : t.standing ≡ s.standing
  pub left : t.left ≡ s.left

-- ---- what it asks for

-- what its plan asks for
abbrev pub IsAsked : OpScope → ℕ → Mode → Type 0
IsAsked s p mode = AsksFor (looked s) s.room s.seen.total s.split s.op p mode

-- it puts a record, and was led to no page
abbrev pub NeedsRoom : OpScope → Type 0
NeedsRoom s = (s.room ≡ None) × (0 < record_bytes s.op)

-- nobody has locked the page
abbrev pub IsUnlocked : List PageLock → ℕ → Type 0
IsUnlocked locks p = All (λ (l : PageLock). l.page ≢ p) locks

-- the page is noted to take the record, and nobody has locked it
abbrev pub IsOpenTo : List ℕ → List PageLock → Op → ℕ → Type 0
IsOpenTo noted locks op p = Takes noted (record_bytes op) p × IsUnlocked locks p

-- what an operation finds that looks for a page for its record: an open one, or none if none is
abbrev pub FindsRoom : List ℕ → List PageLock → OpScope → Option ℕ → Type 0
FindsRoom noted locks s (Some p) = NeedsRoom s × IsOpenTo noted locks s.op p
FindsRoom noted locks s None = NeedsRoom s → (p : ℕ) → IsOpenTo noted locks s.op p → ⊥

-- Its plan asks for the space map, to take a page for the record: a page that is open to the record is tried first,
-- to write it.
abbrev pub IsTried : List ℕ → List PageLock → OpScope → ℕ → Mode → Type 0
IsTried noted locks s p mode = ((first : Mode) × IsAsked s 0 first) × (mode ≡ Write) × FindsRoom noted locks s (Some p)

-- The space map itself is asked for, to take a page for the record, only if no page is open to the record.
abbrev pub IsInTurn : List ℕ → List PageLock → OpScope → ℕ → Type 0
IsInTurn noted locks s p = p ≡ 0 → FindsRoom noted locks s None

-- a page that it has not looked at; if it only reads, to read it
pub record IsUnseen (s : OpScope) (p : ℕ) (mode : Mode) : Type 0 where
  pub new : looked s p ≡ None
  pub inside : p < s.seen.total
  pub reads : only_reads s.op ≡ true → mode ≡ Read

-- such a page that its plan asks for in its turn, or one that is tried first
pub record IsToLook (noted : List ℕ) (locks : List PageLock) (s : OpScope) (p : ℕ) (mode : Mode) : Type 0 where
  pub unseen : IsUnseen s p mode
  pub asked : (IsAsked s p mode × IsInTurn noted locks s p) ⊎ IsTried noted locks s p mode

-- a page that it has looked at and not locked to write, and that its plan changes: to write it
pub record IsToWrite (s : OpScope) (p : ℕ) (mode : Mode) : Type 0 where
  pub seen : IsSome (looked s p)
  pub unlocked : Contains s.guards.items (lock_of s.number p Write) → ⊥
  pub writes : mode ≡ Write
  pub changes : List PageChange
  pub reply : Reply
  pub planned : (relations counters : ℕ) → relations ≤ MAX_RELATIONS → IsWithin relations counters s.op
      → InPages (looked s) s.room relations counters s.seen.total
      (λ pages. IsPlanned relations counters s.seen.total (looked s) pages changes s.op s.split reply)
  pub reads : only_reads s.op ≡ true → changes ≡ []
  pub touched : IsUntouched changes p → ⊥

abbrev pub IsNext : List ℕ → List PageLock → OpScope → ℕ → Mode → Type 0
IsNext noted locks s p mode = IsToLook noted locks s p mode ⊎ IsToWrite s p mode

-- The smallest operation with a lock in its way is larger than it, and so is every other such.
abbrev pub IsAwaited : List PageLock → PageLock → ℕ → Type 0
IsAwaited locks lock holder = IsLeastHolder lock locks holder × (lock.op < holder)

-- The smallest operation with a lock in its way is smaller than it.
abbrev pub IsBarred : List PageLock → PageLock → ℕ → Type 0
IsBarred locks lock holder = IsLeastHolder lock locks holder × (holder < lock.op)

abbrev pub IsHeld : World → World → OpScope → OpScope → ℕ → Mode → Result Stepped Refusal → Type 0
IsHeld w z s t p mode (Ok stepped.Went) = Locks w z (lock_of s.number p mode) × Holds s t p mode
IsHeld w z s t p mode (Ok (stepped.Wait holder)) =
    Rests w z × Stays s t × IsAwaited w.locks (lock_of s.number p mode) holder
IsHeld w z s t p mode (Ok (stepped.Again holder)) =
    Leaves w z s × IsAnew s t × IsBarred w.locks (lock_of s.number p mode) holder
IsHeld w z s t p mode (Ok stepped.Flush) = ⊥
IsHeld w z s t p mode (Ok (stepped.Ready first second)) = ⊥
IsHeld w z s t p mode (Err why) = Rests w z × Stays s t

-- it has asked for no lock that it did not get
abbrev pub AsksNothing : Result Stepped Refusal → Type 0
AsksNothing (Ok (stepped.Wait holder)) = ⊥
AsksNothing (Ok (stepped.Again holder)) = ⊥
AsksNothing (Ok stepped.Went) = Unit {0}
AsksNothing (Ok stepped.Flush) = Unit {0}
AsksNothing (Ok (stepped.Ready first second)) = Unit {0}
AsksNothing (Err why) = Unit {0}

-- ---- the locks of all

-- They stay but for what a step asks for, which is next: it gets this lock, and no other; or waits for the smallest
-- operation in the way; or gives all its own back, and no other's.
abbrev pub KeepsLocks : ℕ → (ℕ → Mode → Type 0) → List PageLock → List PageLock → Result Stepped Refusal → Type 0
KeepsLocks op Next old new (Ok stepped.Went) =
    (new ≡ old) ⊎ ((p : ℕ) × (mode : Mode) × Next p mode × (new ≡ old ++ lock_of op p mode ∷ []))
KeepsLocks op Next old new (Ok (stepped.Wait holder)) =
    (new ≡ old) × ((p : ℕ) × (mode : Mode) × Next p mode × IsAwaited old (lock_of op p mode) holder)
KeepsLocks op Next old new (Ok (stepped.Again holder)) =
    (new ≡ locks_without op old) × ((p : ℕ) × (mode : Mode) × Next p mode × IsBarred old (lock_of op p mode) holder)
KeepsLocks op Next old new (Ok stepped.Flush) = new ≡ old
KeepsLocks op Next old new (Ok (stepped.Ready first second)) = new ≡ old
KeepsLocks op Next old new (Err why) = new ≡ old

-- the same of a step that plans; if it answers nothing the plan is made
abbrev pub KeepsLocksOn : ℕ → (ℕ → Mode → Type 0) → List PageLock → List PageLock → Result (Option Stepped) Refusal
    → Type 0
KeepsLocksOn op Next old new (Ok (Some answer)) = KeepsLocks op Next old new (Ok answer)
KeepsLocksOn op Next old new (Ok None) = new ≡ old
KeepsLocksOn op Next old new (Err why) = new ≡ old

-- ---- the operation itself

-- the page that it was led to, as it looked at it, does not take its record
abbrev pub IsMisled : OpScope → Type 0
IsMisled s = (p : ℕ) → s.room ≡ Some p → fits_of (looked_bytes s p) < record_bytes s.op

-- It is led to the page that it was led to; or it was led to none, and is led to one that it had not looked at; or
-- that page does not take its record, and it is led to none.
abbrev pub KeepsRoom : OpScope → OpScope → Type 0
KeepsRoom s t = (t.room ≡ s.room) ⊎ (((s.room ≡ None) × ((p : ℕ) → t.room ≡ Some p → looked s p ≡ None))
    ⊎ ((t.room ≡ None) × IsMisled s))

-- It stays if it waits; if it begins anew it is as at its beginning. If it needs a frame or is refused it
-- stays, unless its plan was made in this step. It forgets the page that it was led to only if that does not take its
-- record.
abbrev pub KeepsScope : OpScope → OpScope → Result Stepped Refusal → Type 0
KeepsScope s t (Ok stepped.Went) = KeepsRoom s t
KeepsScope s t (Ok (stepped.Wait holder)) = Stays s t
KeepsScope s t (Ok (stepped.Again holder)) = IsAnew s t
KeepsScope s t (Ok stepped.Flush) = Stays s t ⊎ IsMade s t
KeepsScope s t (Ok (stepped.Ready first second)) = t.room ≡ s.room
KeepsScope s t (Err why) = Stays s t ⊎ IsMade s t

abbrev pub KeepsScopeOn : OpScope → OpScope → Result (Option Stepped) Refusal → Type 0
KeepsScopeOn s t (Ok (Some answer)) = KeepsScope s t (Ok answer)
KeepsScopeOn s t (Ok None) = IsMade s t
KeepsScopeOn s t (Err why) = KeepsScope s t (Err why)
