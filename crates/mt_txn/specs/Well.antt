-- What a kernel over pages keeps, and what it shows of it.
use Rattle.std.specs.Prelude.{ℕ, ◌≡◌}
use Rattle.mt_disk.specs.declared.device.Device.{Ghosts}
use Rattle.mt_escrow.specs.Seen.{Escrowed}
use Rattle.mt_live.specs.Machine.{State}
use Rattle.mt_model.specs.Model.{Base, IsBase}
use Rattle.mt_op.specs.Operations.{IsRight}
use Rattle.mt_op.specs.declared.operations.Operations.{Operations}
use Rattle.mt_steps.specs.Held.{Holds}
use Rattle.mt_core.specs.Consistent.{Origin, IsSchema, IsFirstArea, IsEscrowed, IsConsistent, IsIn}
use Rattle.mt_core.specs.Restartable.{IsRestartable}
use Rattle.mt_core.specs.declared.parts.Core.{Core}

-- what a kernel of so many relations and counters began on, with this base
pub record IsOrigin (relations counters : ℕ) (first : Base) (origin : Origin) : Type 0 where
  pub relations_are : origin.relations ≡ relations
  pub counters_are : origin.counters ≡ counters
  pub first_is : origin.first ≡ first

-- its parts keep the ties between them, on the base that the pages hold
abbrev pub IsWell : {D : Type 0} → Ghosts D → ℕ → ℕ → Core D → Type 0
IsWell g relations counters k =
    ∥ ((origin : Origin) × (base : Base) × IsOrigin relations counters origin.first origin
    × IsConsistent g origin base k) ∥₁

-- Begun on this base, they are in this state of the laws.
abbrev pub ShowsIn : {D : Type 0} → Ghosts D → ℕ → ℕ → Base → State → Core D → Type 0
ShowsIn g relations counters first s k =
    ∥ ((origin : Origin) × (base : Base) × IsOrigin relations counters first origin
    × IsIn g origin base s k) ∥₁

-- what a kernel begins on: its book begins with the log's area, the pages hold the first base, and the escrow has its
-- counters
pub record IsOpening {D : Type 0} (g : Ghosts D) (origin : Origin) (o : Operations D) (e : Escrowed) : Type 0 where
  pub schema : IsSchema origin
  pub area : IsFirstArea origin
  pub bounds : IsBase origin.first
  pub holds : Holds origin.pages origin.first
  pub right : IsRight g origin.pages origin.relations origin.counters o
  pub escrowed : IsEscrowed origin.counters origin.first e

abbrev pub Opens : {D : Type 0} → Ghosts D → Operations D → Escrowed → ℕ → ℕ → Base → Type 0
Opens g o e relations counters first =
    ∥ ((origin : Origin) × IsOrigin relations counters first origin × IsOpening g origin o e) ∥₁

-- ---- restarts

-- If the pages hold a base when the log's area begins, they can be restarted from each beginning of its records.
pub record IsRestartableOn {D : Type 0} (g : Ghosts D) (relations counters : ℕ)
    (first : Base) (origin : Origin) (base : Base) (k : Core D) : Type 0 where
  pub is : IsOrigin relations counters first origin
  pub bounds : IsBase origin.begun
  pub holds : Holds origin.pages origin.begun
  pub consistent : IsConsistent g origin base k
  pub restartable : IsRestartable origin k

abbrev pub RestartsFrom : {D : Type 0} → Ghosts D → ℕ → ℕ → Base → Core D → Type 0
RestartsFrom g relations counters first k =
    ∥ ((origin : Origin) × (base : Base) × IsRestartableOn g relations counters first origin base k) ∥₁
