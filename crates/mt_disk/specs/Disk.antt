-- What the calls of a device do to its content, and what a crash may leave of it. All of it goes by
-- single bytes, since facts on ranges then come from facts on indexes.
use Rattle.std.specs.Prelude.{◌<◌, ◌≡◌, ◌⊎◌, ◌↔◌, ℕ, ◌+◌, ◌≤◌, List, Result, IsErr, IsOk}
pub use Rattle.mt_base.specs.Ranges.{Has, Torn, Wrote, Apart}

-- whatever a crash may leave now comes by such a step from what it might have left before
abbrev pub Follows : (List ℕ → List ℕ → Type 0) → (List ℕ → Type 0) → (List ℕ → Type 0) → Type 0
Follows step old new = (c : List ℕ) → new c → (d : List ℕ) × old d × step d c

-- whatever a crash may leave has P
abbrev pub Leaves : (List ℕ → Type 0) → (List ℕ → Type 0) → Type 0
Leaves outcomes P = (c : List ℕ) → outcomes c → P c

-- a crash leaves this content and no other
abbrev pub Only : List ℕ → (List ℕ → Type 0) → Type 0
Only content outcomes = (c : List ℕ) → outcomes c → c ≡ content

-- a crash may leave now just what it might have left before
abbrev pub LeavesTheSame : (List ℕ → Type 0) → (List ℕ → Type 0) → Type 0
LeavesTheSame old new = (c : List ℕ) → new c ↔ old c

-- The time of one call: a moment passes in it at most. What a crash since some earlier moment might have left is what
-- it might have left before the call, or what it may leave after it.
pub record Elapses (before now : ℕ) (past since : ℕ → List ℕ → Type 0) (may_leave : List ℕ → Type 0) : Type 0 where
  pub later : before ≤ now
  pub at_once : now ≤ before + 1
  pub nothing_else : (t : ℕ) (c : List ℕ) → t ≤ before → since t c → past t c ⊎ may_leave c
  pub keeps : (t : ℕ) (c : List ℕ) → t ≤ before → past t c → since t c

-- Whenever a crash comes between these two states of a device, it leaves what has P.
pub record LeavesOnly {D : Type 0} (moment : D → ℕ) (left_since : D → ℕ → List ℕ → Type 0) (old new : D)
    (P : List ℕ → Type 0) : Type 0 where
  pub later : moment old ≤ moment new
  pub each : (c : List ℕ) → left_since new (moment old) c → P c
  -- the same, for a run of calls that began before
  pub before : (t : ℕ) (c : List ℕ) → t ≤ moment old → left_since new t c → left_since old t c ⊎ P c

-- A call reports a fault if and only if the device failed in it.
pub record HasCause {T E : Type 0} (before now : ℕ) (result : Result T E) : Type 0 where
  pub later : before ≤ now
  pub failed : IsErr result → before < now
  pub quiet : IsOk result → now ≡ before
