-- What a restart in memory finds in any bytes, and why it refuses bytes.
use Rattle.std.specs.Prelude.{◌≡◌, ◌⊎◌, ℕ, ◌+◌, ◌*◌, List, length}
use Rattle.std.specs.List.{AllByRecursion}
use Rattle.mt_base.specs.declared.limits.TheConstants.{MASTER_BYTES, PAGE_BYTES}
use Rattle.mt_base.specs.declared.format.Format.{Format}
use Rattle.mt_base.specs.declared.refusal.Refusal.{Refusal}
use Rattle.mt_base.specs.declared.refusal.Refusal.TheVariants.{NoMemory, DeviceFailed, NotFormatted, BadFormat}
use Rattle.mt_frame.specs.declared.records.Record.{Record}
use Rattle.mt_frame.specs.declared.slots.MasterSlot.{MasterSlot}
use Rattle.mt_log.specs.Batch.{joined}
use Rattle.mt_log.specs.Found.{places_of, records_of}
use Rattle.mt_log.specs.Holds.{BreaksAt, places_from}
use Rattle.mt_log.specs.declared.batch.Batch.{Batch}
use Rattle.mt_pool.specs.Images.{GivesPages}
use Rattle.mt_pool.specs.Kept.{carried}
use Rattle.mt_space.specs.Changes.{PageBytes}
use Rattle.mt_page_rules.specs.Checks.{AreChecked, AreCheckedIn}
use Rattle.mt_page_rules.specs.Faults.{IsFaulty}
use Rattle.mt_replay.specs.Figures.{AreFigures}
use Rattle.mt_replay.specs.Losers.{all_finished, HasEnded, HasUndone, StopsAt}
use Rattle.mt_log.specs.Masters.{BreaksMaster, IsRuling, IsUnformatted, area_end, area_start}
use Rattle.mt_replay.specs.Memory.{AreFirst}
use Rattle.mt_replay.specs.Recoverable.{pages_held}
use Rattle.mt_replay.specs.Stands.{HasArea}
use Rattle.mt_replay.specs.Recorded.{losers}
use Rattle.mt_replay.specs.declared.figures.Figures.{Figures}
use Rattle.mt_replay.specs.declared.losers.Loser.{Loser}

-- these batches of the area that the slot names lead to these pages held, and leave these losers
pub record AreRepeated (c : List ℕ) (slot : MasterSlot) (batches : List Batch) (held : List (List ℕ))
    (list : List Loser) : Type 0 where
  pub area : HasArea c slot (records_of batches)
  pub places : places_of batches ≡ places_from (area_start slot) (records_of batches)
  pub count : length held ≡ slot.pages
  pub pages : (opening : PageBytes) → GivesPages MASTER_BYTES slot.pages opening (carried (joined (records_of batches)))
      c
      → AreFirst held (pages_held opening (joined (records_of batches)))
  pub losers : all_finished list ≡ losers (joined (records_of batches))
  pub ended : AllByRecursion (HasEnded batches) list

-- the pages held break no rule of this format, the losers' inverses are made on them, and what they leave breaks none
pub record AreUndone (format : Format) (held : List (List ℕ)) (list : List Loser) (items : List (List ℕ)) : Type 0 where
  pub before : AreCheckedIn format held
  pub undone : HasUndone held list items
  pub after : AreChecked items

-- what a restart in memory makes of bytes
pub record IsReplayed (c : List ℕ) (slot : MasterSlot) (items : List (List ℕ)) : Type 0 where
  pub batches : List Batch
  pub held : List (List ℕ)
  pub list : List Loser
  pub repeated : AreRepeated c slot batches held list
  pub undone : AreUndone slot.format held list items

-- the log's area, as the ruling slot names it, and its figures
pub record IsLog (c : List ℕ) (slot : MasterSlot) (figures : Figures) : Type 0 where
  pub batches : List (List Record)
  pub area : HasArea c slot batches
  pub figures_reported : AreFigures batches figures

-- ---- refusals

-- the offset of the slot of a page that breaks a rule
abbrev pub IsFaultAt : Format → List (List ℕ) → ℕ → Type 0
IsFaultAt format held at = (p : ℕ) × (at ≡ MASTER_BYTES + PAGE_BYTES * p) × IsFaulty format held p

-- a page held breaks a rule, or none does and an inverse is not what its loser's record says
abbrev pub StopsUndoing : Format → List (List ℕ) → List Loser → ℕ → Type 0
StopsUndoing format held list at = IsFaultAt format held at ⊎ (AreCheckedIn format held × StopsAt held list at)

-- the bytes break a rule at this offset: of the master slots, or of the batches of the area that the ruling slot names
pub data BreaksLog (c : List ℕ) (at : ℕ) : Type 0 where
  in_master : BreaksMaster c at → BreaksLog c at
  in_area : (slot : MasterSlot) → IsRuling c slot
      → BreaksAt slot.format c (area_start slot) (area_end slot) slot.pages at → BreaksLog c at

-- or after these
pub data BreaksFormat (c : List ℕ) (at : ℕ) : Type 0 where
  in_log : BreaksLog c at → BreaksFormat c at
  behind : (slot : MasterSlot) (batches : List Batch) (held : List (List ℕ)) (list : List Loser)
      → AreRepeated c slot batches held list → StopsUndoing slot.format held list at → BreaksFormat c at

-- the cause of a refusal of these bytes, in a call in which the device failed or did not, if rules are broken so
abbrev pub IsCause : (List ℕ → ℕ → Type 0) → List ℕ → Type 0 → Refusal → Type 0
IsCause Breaks c failed NoMemory = Unit {0}
IsCause Breaks c failed DeviceFailed = failed
IsCause Breaks c failed NotFormatted = IsUnformatted c
IsCause Breaks c failed (BadFormat at) = Breaks c at
IsCause Breaks c failed _ = ⊥
