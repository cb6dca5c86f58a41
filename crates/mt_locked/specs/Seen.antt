-- What contracts see of a pass and of the locked kernel.
use Rattle.std.specs.Prelude.{◌≡◌, ◌≢◌, ◌<◌, ◌≤◌, ◌⊎◌, Bool, true, ℕ, ◌+◌, List, [], ◌∷◌, ◌++◌, length, take, slice_get, Option, Some, None, Result, Err}
use Rattle.mt_base.specs.declared.refusal.Refusal.{Refusal}
use Rattle.mt_base.specs.declared.refusal.Refusal.TheVariants.{DeviceFailed}
use Rattle.mt_mark.specs.Held.{Held}
use Rattle.mt_mark.specs.Legal.{IsLegal}
use Rattle.mt_mark.specs.Rule.{dones, NoneBy}
use Rattle.mt_mark.specs.declared.view.Entry.{Entry}
use Rattle.mt_model.specs.declared.history.Committed.{Committed}
use Rattle.mt_model.specs.declared.tables.Base.{Base}
use Rattle.mt_core.specs.declared.parts.Commit.{Commit}
use Rattle.mt_locked.specs.declared.locked.Due.{Due}
use Rattle.mt_txn.specs.Seen.{KernelSeen, commits_in, has_failed_in}

-- the pass's number, and its beginning of the history
pub record PassSeen : Type 0 where
  pub number : ℕ
  pub seen : List Entry

-- The kernel, or else the device that a rotation left; the durable book; the history at the mark; and how many passes
-- it has. So many hold new transactions back, and that is due for who rotates.
pub record LockedSeen (D : Type 0) : Type 0 where
  pub kernel : Option (KernelSeen D)
  pub left : Option D
  pub book : List Committed
  pub list : List Entry
  pub pass_count : ℕ
  pub holding : ℕ
  pub due : Due

-- the history, the passes and who holds new transactions back are as before
abbrev pub SameAround : {D : Type 0} → LockedSeen D → LockedSeen D → Type 0
SameAround old new =
    (new.list ≡ old.list) × (new.pass_count ≡ old.pass_count) × (new.holding ≡ old.holding)

-- and so is the device that is left, if no kernel stands
abbrev pub SameBeside : {D : Type 0} → LockedSeen D → LockedSeen D → Type 0
SameBeside old new = SameAround old new × (new.left ≡ old.left)

-- The kernel was asked, and did this. If none stands, the call is refused with 2.
abbrev pub IsAskedOf : {D T : Type 0} → Option (KernelSeen D) → Result T Refusal → Option (KernelSeen D)
    → (KernelSeen D → KernelSeen D → Type 0) → Type 0
IsAskedOf None result new Did = (result ≡ Err DeviceFailed) × (new ≡ None)
IsAskedOf {D} (Some k) result new Did = (n : KernelSeen D) × (new ≡ Some n) × Did k n

abbrev pub IsAsked : {D T : Type 0} → LockedSeen D → Result T Refusal → LockedSeen D
    → (KernelSeen D → KernelSeen D → Type 0) → Type 0
IsAsked old result new Did = IsAskedOf old.kernel result new.kernel Did

-- whether each call of it is refused with 2: the kernel has failed, or none stands
abbrev pub is_failed_in : {D : Type 0} → Option (KernelSeen D) → Bool
is_failed_in None = true
is_failed_in (Some k) = has_failed_in k

-- the commits of the kernel that are appended, and not in the book yet
abbrev pub under_way_in : {D : Type 0} → Option (KernelSeen D) → List Commit
under_way_in None = []
under_way_in (Some k) = commits_in k

-- The commit at this position is not in the book yet. It is the next to be entered, or the device has failed.
abbrev pub IsToForce : {D : Type 0} → LockedSeen D → ℕ → Type 0
IsToForce locked place =
    (length locked.book < place) × ((length locked.list + 1 ≡ place) ⊎ (is_failed_in locked.kernel ≡ true))

-- The pass's new list is legal, begins with all that it had seen, has this length, and ends with the entry. No other
-- entry past the old list is this pass's.
pub record Extends (b : Base) (old : PassSeen) (entry : Entry) (place : ℕ) (new : PassSeen) : Type 0 where
  pub number : new.number ≡ old.number
  pub between : List Entry
  pub list : new.seen ≡ (old.seen ++ between) ++ entry ∷ []
  pub others : NoneBy old.number between
  pub legal : IsLegal b (dones new.seen)
  pub long : length new.seen ≡ place

-- and it is the first entries of the book, passes aside
pub record Entered {D : Type 0} (b : Base) (locked : LockedSeen D) (place : ℕ) (old : PassSeen) (entry : Entry)
    (new : PassSeen) : Type 0 where
  pub extends : Extends b old entry place new
  pub durable : dones new.seen ≡ take place locked.book

-- the mark is not one below the position, or the book has no such entry there
abbrev pub CannotEnter : {D : Type 0} → LockedSeen D → ℕ → Entry → Type 0
CannotEnter locked place entry =
    (length locked.list + 1 ≢ place) ⊎ (slice_get locked.book (length locked.list) ≢ Some entry.done)

-- The pass's new list is legal, begins with all that it had seen, has this length, and no further entry of its own.
pub record Looked (b : Base) (old : PassSeen) (found : ℕ) (new : PassSeen) : Type 0 where
  pub number : new.number ≡ old.number
  pub between : List Entry
  pub list : new.seen ≡ old.seen ++ between
  pub others : NoneBy old.number between
  pub legal : IsLegal b (dones new.seen)
  pub long : length new.seen ≡ found

-- a seat of the same mark, which has seen all that the end has
pub record Beside (end seat : Held) : Type 0 where
  pub mark : seat.mark ≡ end.mark
  pub base : seat.view.base ≡ end.view.base
  pub list : seat.view.list ≡ end.view.list
  pub above : 1 ≤ seat.view.number
