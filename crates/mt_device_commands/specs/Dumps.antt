-- What `dump` reports of a device, and what becomes of its file.
use Rattle.std.specs.Prelude.{ℕ, ◌≢◌, ◌⊎◌, List, ◌∷◌, [], ◌++◌, Option, codes, map}
use Rattle.std.specs.Io.KnownBytes.{Appends, Keeps}
use Rattle.std.specs.List.{concat}
use Rattle.mt_base.specs.declared.refusal.Refusal.{Refusal}
use Rattle.mt_base.specs.declared.refusal.Refusal.TheVariants as refusal
use Rattle.mt_model.specs.Model.{Base}
use Rattle.mt_rows.specs.Rows.{IsOrdered}
use Rattle.mt_model.specs.Views.{counters_of, rows_of}
use Rattle.mt_op.specs.declared.survey.Survey.{Survey}
use Rattle.mt_replay.specs.Stands.{CanRestart}
use Rattle.mt_restart.specs.Inspected.{ReportsRestored}
use Rattle.mt_restart.specs.Recovered.{IsCauseToStop}
use Rattle.mt_script.specs.Answers.{AppendsFront}
use Rattle.mt_device_commands.specs.Checks.{IsContentOf, number_line}
use Rattle.mt_folder.specs.Folders.{AreKept, Files, IsFileRefusal, IsHeld, Puts}
use Rattle.mt_explain.specs.Listings.{counter_lines, row_line}
use Rattle.mt_report.specs.declared.faults.Fault.{Fault}
use Rattle.mt_report.specs.declared.faults.Fault.TheVariants.{Output, Refused, Stopped, Unread, Unscheduled}

-- ---- what is printed

-- the depth of the index, the free pages, the rows in order, and the counters
abbrev pub sizes_text : Survey → List ℕ
sizes_text s = concat (number_line (codes "depth ") s.depth ∷ number_line (codes "free ") s.free ∷ [])

abbrev pub dump_text : Survey → List ℕ
dump_text s = (sizes_text s ++ concat (map row_line (rows_of s.base))) ++ counter_lines (counters_of s.base)

-- ---- of which bytes

-- what these bytes represent, those do
abbrev pub StandAs : List ℕ → List ℕ → Type 0
StandAs c d =
    (relations counters : ℕ) (b : Base) → CanRestart relations counters c b → CanRestart relations counters d b

-- why a device of these bytes is not opened, or not surveyed
abbrev pub IsUnsurveyed : List ℕ → Refusal → Type 0
IsUnsurveyed c why = IsCauseToStop c (Unit {0}) why

-- the refusals that leave each byte as it was
abbrev pub IsEarly : Refusal → Type 0
IsEarly why = (why ≢ refusal.NoMemory) × (why ≢ refusal.DeviceFailed)

-- ---- of which file

abbrev pub DumpsOf : Option (List ℕ) → Survey → Type 0
DumpsOf bytes survey = (c : List ℕ) × IsContentOf bytes c × ReportsRestored c survey

-- why nothing is reported of a file
abbrev pub IsUndumpable : Option (List ℕ) → Refusal → Type 0
IsUndumpable bytes why = IsFileRefusal bytes why ⊎ ((c : List ℕ) × IsContentOf bytes c × IsUnsurveyed c why)

-- The file of this name has other bytes, that represent what its bytes represented. Each other file is as before.
pub record IsRestarted (old new : Files) (name : List ℕ) : Type 0 where
  pub before : List ℕ
  pub after : List ℕ
  pub held : IsHeld old name before
  pub put : Puts old new name after
  pub same : StandAs before after

-- if the device was refused so, each file is as before, or the one of this name represents the same
pub record AreFilesLeft (old new : Files) (name : List ℕ) (why : Refusal) : Type 0 where
  pub stands : AreKept old new ⊎ IsRestarted old new name
  pub early : IsEarly why → AreKept old new

-- the lines of such a survey were written, with its rows in order
pub record HasDumped (bytes was now : Option (List ℕ)) : Type 0 where
  pub survey : Survey
  pub of : DumpsOf bytes survey
  pub ordered : IsOrdered (rows_of survey.base)
  pub outcome : Appends was now (dump_text survey)

-- why a dump did not end well: nothing is written if nothing is reported, and else the output failed within the lines
pub data IsUndumped (bytes was now : Option (List ℕ)) : Fault → Type 0 where
  unopened : (why : Refusal) → IsUndumpable bytes why → Keeps was now → IsUndumped bytes was now (Refused why)
  unheard_dump : (survey : Survey) → DumpsOf bytes survey → AppendsFront was now (dump_text survey)
      → IsUndumped bytes was now Output

-- what becomes of the files if it did not
abbrev pub AreLeftBy : Files → Files → List ℕ → Fault → Type 0
AreLeftBy old new name Output = IsRestarted old new name
AreLeftBy old new name (Refused why) = AreFilesLeft old new name why
AreLeftBy old new name (Stopped at) = ⊥
AreLeftBy old new name (Unread why at) = ⊥
AreLeftBy old new name (Unscheduled why) = ⊥
