-- Which refusals a rotation of what is shared has, and going back.
use Rattle.std.specs.Prelude.{ℕ, ◌<◌, ◌≤◌, ⊤}
use Rattle.mt_base.specs.declared.refusal.Refusal.{Refusal}
use Rattle.mt_base.specs.declared.refusal.Refusal.TheVariants as refusal
use Rattle.mt_restart.specs.TurnFaults.{IsTurnFault}

-- 1, 2, 11 or 16
abbrev pub IsTurnRefusal : Refusal → Type 0
IsTurnRefusal refusal.Busy = ⊤
IsTurnRefusal why = IsTurnFault why

-- Going back to the first so many operations has 19 if, and only if, fewer count.
abbrev pub IsSavepointCause : ℕ → ℕ → Refusal → Type 0
IsSavepointCause count first refusal.BadSavepoint = count < first
IsSavepointCause count first why = first ≤ count
