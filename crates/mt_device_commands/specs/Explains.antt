-- What `explain` reports of a device.
use Rattle.std.specs.Prelude.{◌≡◌, ℕ, List, Option, false}
use Rattle.std.specs.Io.KnownBytes.{Appends, Keeps}
use Rattle.mt_base.specs.declared.refusal.Refusal.{Refusal}
use Rattle.mt_frame.specs.declared.slots.MasterSlot.{MasterSlot}
use Rattle.mt_log.specs.Found.{places_of, records_of}
use Rattle.mt_log.specs.Holds.{places_from}
use Rattle.mt_log.specs.Masters.{area_start}
use Rattle.mt_log.specs.declared.batch.Batch.{Batch}
use Rattle.mt_replay.specs.Stands.{HasArea}
use Rattle.mt_script.specs.Answers.{AppendsFront}
use Rattle.mt_device_commands.specs.Checks.{IsContentOf, IsUnreported}
use Rattle.mt_explain.specs.Explanations.{explained}
use Rattle.mt_explain.specs.Histories.{Recounts}
use Rattle.mt_explain.specs.declared.history.History.{History}
use Rattle.mt_report.specs.declared.faults.Fault.{Fault}
use Rattle.mt_report.specs.declared.faults.Fault.TheVariants.{Output, Refused}

-- the area that the slot names holds these batches and no others, each at its offset
pub record AreBatchesIn (c : List ℕ) (slot : MasterSlot) (batches : List Batch) : Type 0 where
  pub area : HasArea c slot (records_of batches)
  pub places : places_of batches ≡ places_from (area_start slot) (records_of batches)

-- they are the log of these bytes
abbrev pub IsLogOf : List ℕ → List Batch → Type 0
IsLogOf c batches = (slot : MasterSlot) × AreBatchesIn c slot batches

-- of the file's bytes, if they are known
abbrev pub IsLogIn : Option (List ℕ) → List Batch → Type 0
IsLogIn bytes batches = (c : List ℕ) × IsContentOf bytes c × IsLogOf c batches

abbrev pub RecountsLog : Option (List ℕ) → History → Type 0
RecountsLog bytes h = (batches : List Batch) × IsLogIn bytes batches × Recounts batches h

-- the lines of the log of such bytes were written
pub record HasExplained (bytes was now : Option (List ℕ)) : Type 0 where
  pub batches : List Batch
  pub of : IsLogIn bytes batches
  pub outcome : Appends was now (explained batches)

-- why they were not: nothing is written if nothing is reported, and else the output failed within the lines
pub data IsUnexplained (bytes was now : Option (List ℕ)) : Fault → Type 0 where
  unreported_log : (why : Refusal) → IsUnreported false bytes why → Keeps was now
      → IsUnexplained bytes was now (Refused why)
  unheard_log : (batches : List Batch) → IsLogIn bytes batches → AppendsFront was now (explained batches)
      → IsUnexplained bytes was now Output
