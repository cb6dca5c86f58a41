-- What a scan knows of what it has read.
use Rattle.std.specs.Prelude.{◌≡◌, ◌≢◌, ◌⊎◌, ◌<◌, ℕ, Bool, true, false, List, Result, Ok, IfErr, Err, OnOk, slice_index}
use Rattle.mt_disk.specs.declared.device.Device.{Ghosts}
use Rattle.mt_base.specs.declared.refusal.Refusal.{Refusal}
use Rattle.mt_area_rules.specs.Known.{Knows}
use Rattle.mt_frame.specs.declared.TheConstants.{OPEN_GATE}
use Rattle.mt_log.specs.Batch.{Stands, joined}
use Rattle.mt_log.specs.Found.{records_of, places_of}
use Rattle.mt_log.specs.Holds.{AreBatches, AreBatchesOf, BreakNoRule, BreaksAt, places_from}
use Rattle.mt_log.specs.Quiet.{OnlyReads}
use Rattle.mt_log.specs.declared.scan_state.Reading.{Reading}

-- the batches that were read stand in a row up to the next one's gate, and break no rule
pub record HasRead (c : List ℕ) (reading : Reading) : Type 0 where
  pub row : Stands c reading.place.start (records_of reading.found.items) reading.next
  pub places : places_of reading.found.items ≡ places_from reading.place.start (records_of reading.found.items)
  pub each : AreBatches reading.pages (records_of reading.found.items)
  pub of_format : AreBatchesOf reading.format (records_of reading.found.items)
  pub rules : BreakNoRule (records_of reading.found.items)
  pub known : Knows reading.rules (joined (records_of reading.found.items))

-- the next batch is read, if its gate is open
pub record ReadsBatch {D : Type 0} (g : Ghosts D) (old new : Reading) (d e : D) (r : Result Bool Refusal) : Type 0 where
  pub read : OnOk r (HasRead (g.seen d) new)
  pub place : new.place ≡ old.place
  pub pages : new.pages ≡ old.pages
  pub same_format : new.format ≡ old.format
  pub more : r ≡ Ok true → old.next < new.next
  pub ended : r ≡ Ok false → slice_index (g.seen d) new.next ≢ OPEN_GATE
  pub bad : IfErr r (λ why. (at : ℕ) → why ≡ Refusal.BadFormat at
      → BreaksAt old.format (g.seen d) old.place.start old.place.end old.pages at)
  pub cause : IfErr r (λ why. (why ≡ Refusal.NoMemory) ⊎ (((why ≡ Refusal.DeviceFailed) × (g.faults d < g.faults e))
      ⊎ ((at : ℕ) × (why ≡ Refusal.BadFormat at))))
  pub reads : OnlyReads g d e
  pub quiet : (r ≡ Err Refusal.DeviceFailed → ⊥) → g.faults e ≡ g.faults d
