-- What an area holds by the grammar, and where it breaks it.
use Rattle.std.specs.Prelude.{◌<◌, ◌≡◌, ◌⊎◌, ℕ, ◌+◌, List, [], ◌∷◌, length, true, false}
use Rattle.std.specs.List.{AllByRecursion}
use Rattle.std.proofs.Math.ListN.{get_or}
use Rattle.mt_frame.specs.declared.TheConstants.{OPEN_GATE}
use Rattle.mt_disk.specs.Disk.{Has}
use Rattle.mt_frame.specs.declared.records.Record.{Record}
use Rattle.mt_frame.specs.declared.records.Record.TheVariants.{Page, OpEnd, OpDropped, Commit, AbortEnd}
use Rattle.mt_frame.specs.Grammar.{AreOfFormat, IsRecord, body_text, batch_text}
use Rattle.mt_base.specs.declared.format.Format.{Format}
use Rattle.mt_area_rules.specs.History.{MayFollow, IsHistory}
use Rattle.mt_log.specs.Batch.{Stands, Scans, joined}

-- ---- batches

-- the page of a page record is one of the device's
abbrev pub HasItsPage : ℕ → Record → Type 0
HasItsPage pages (Page txn op page image start old new) = page < pages
HasItsPage pages (OpEnd txn op undoes done) = Unit {0}
HasItsPage pages (OpDropped txn op) = Unit {0}
HasItsPage pages (Commit txn) = Unit {0}
HasItsPage pages (AbortEnd txn) = Unit {0}

-- each record is one of the grammar, on a device of so many pages
abbrev pub AreRecords : ℕ → List Record → Type 0
AreRecords pages records = AllByRecursion IsRecord records × AllByRecursion (HasItsPage pages) records

-- so in each batch
abbrev pub AreBatches : ℕ → List (List Record) → Type 0
AreBatches pages batches = AllByRecursion (AreRecords pages) batches

-- each value of them is as long as this format lets it be at most
abbrev pub AreBatchesOf : Format → List (List Record) → Type 0
AreBatchesOf format batches = AllByRecursion (AreOfFormat format) batches

-- the batch may stand after these, the area's first ones; with none of them it is the area's first
abbrev pub MayComeNext : List (List Record) → List Record → Type 0
MayComeNext [] batch = MayFollow true [] batch
MayComeNext (b ∷ bs) batch = MayFollow false (joined (b ∷ bs)) batch

-- none of the area's first batches breaks a rule
abbrev pub BreakNoRule : List (List Record) → Type 0
BreakNoRule [] = Unit {0}
BreakNoRule (b ∷ bs) = IsHistory (b ∷ bs)

-- where these batches stand in a row from p on
abbrev pub places_from : ℕ → List (List Record) → List ℕ
places_from p [] = []
places_from p (b ∷ bs) = p ∷ places_from (p + 5 + length (body_text b)) bs

-- ---- areas

-- The area holds these batches and no more: they stand in a row from its first byte on, after them and before its end
-- is a gate that is not open, and they break no rule.
pub record HoldsBatches (c : List ℕ) (start end pages : ℕ) (batches : List (List Record)) : Type 0 where
  pub row : Scans c start end batches
  pub each : AreBatches pages batches
  pub rules : IsHistory batches

-- they are batches of this format
pub record HoldsOf (format : Format) (c : List ℕ) (start end pages : ℕ) (batches : List (List Record)) : Type 0 where
  pub held : HoldsBatches c start end pages batches
  pub of_format : AreBatchesOf format batches

-- The batch stands at this place, with the next gate before the area's end. It is one of the format, and breaks no
-- rule after those before it.
pub record IsNextBatch (format : Format) (c : List ℕ) (place end pages : ℕ) (before : List (List Record))
    (batch : List Record) : Type 0 where
  pub text : Has c place (batch_text batch)
  pub fits : place + 5 + length (body_text batch) < end
  pub each : AreRecords pages batch
  pub of_format : AreOfFormat format batch
  pub rules : MayComeNext before batch

-- The area breaks this format's grammar at this place first: a row of batches that break no rule stands up to it, a
-- batch is due there, since its gate is open or it would be the first one, and none that may stand there does.
pub record BreaksAt (format : Format) (c : List ℕ) (start end pages place : ℕ) : Type 0 where
  pub before : List (List Record)
  pub row : Stands c start before place
  pub inside : place < end
  pub each : AreBatches pages before
  pub of_format : AreBatchesOf format before
  pub rules : BreakNoRule before
  pub due : (get_or c place 0 ≡ OPEN_GATE) ⊎ (before ≡ [])
  pub none : (batch : List Record) → IsNextBatch format c place end pages before batch → ⊥
