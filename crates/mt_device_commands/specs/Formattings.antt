-- What `format` makes.
use Rattle.std.specs.Prelude.{ℕ, ◌≡◌, ◌⊎◌, List, map}
use Rattle.mt_base.specs.declared.refusal.Refusal.{Refusal}
use Rattle.mt_base.specs.declared.refusal.Refusal.TheVariants as refusal
use Rattle.mt_model.specs.Tables.{started}
use Rattle.mt_format.specs.Formats.{IsFormattedAs}
use Rattle.mt_format.specs.Schemas.{counters_in, mib_in, pages_in, relations_in}
use Rattle.mt_format.specs.Within.{IsWithinLimits}
use Rattle.mt_format.specs.declared.schema.Schema.{Schema}
use Rattle.mt_folder.specs.Folders.{Files, Puts}
use Rattle.mt_args.specs.declared.numbers.Numbers.{Numbers}
use Rattle.mt_report.specs.declared.faults.Fault.{Fault}
use Rattle.mt_report.specs.declared.faults.Fault.TheVariants.{Output, Refused, Stopped, Unread, Unscheduled}

-- they lie within the limits
abbrev pub AreAllowed : Numbers → Type 0
AreAllowed n = IsWithinLimits n.pages n.area n.relations n.counters.items

-- pages, area and relations are these
abbrev pub AreNarrow : Numbers → ℕ × ℕ × ℕ → Type 0
AreNarrow n t = (t.0 ≡ n.pages) × (t.1 ≡ n.area) × (t.2 ≡ n.relations)

-- the schema of these numbers, which lie within the limits
pub record IsSchemaOf (n : Numbers) (schema : Schema) : Type 0 where
  pub pages : pages_in schema ≡ n.pages
  pub area : mib_in schema ≡ n.area
  pub relations : relations_in schema ≡ n.relations
  pub counters : counters_in schema ≡ map started n.counters.items
  pub within : AreAllowed n

-- why there is no schema of them: a number is outside its limits, or memory was wanting
abbrev pub IsUnmadeOf : Numbers → Refusal → Type 0
IsUnmadeOf n why = ((why ≡ refusal.BadLength) × (¬ AreAllowed n)) ⊎ (why ≡ refusal.NoMemory)

-- the file of this name is a device that is formatted as the schema says, and each other file is as before
pub record PutsFormatted (schema : Schema) (old new : Files) (name : List ℕ) : Type 0 where
  pub content : List ℕ
  pub formatted : IsFormattedAs schema content
  pub put : Puts old new name content

-- and the schema is that of these numbers
pub record Formats (n : Numbers) (old new : Files) (name : List ℕ) : Type 0 where
  pub schema : Schema
  pub of : IsSchemaOf n schema
  pub put : PutsFormatted schema old new name

-- why nothing is formatted: a number is outside its limits, or memory was wanting, or else the device failed
abbrev pub IsUnformed : Numbers → Refusal → Type 0
IsUnformed n why = IsUnmadeOf n why ⊎ ((why ≡ refusal.DeviceFailed) × AreAllowed n)

-- why nothing was formatted of these numbers
abbrev pub IsFormatFault : Numbers → Fault → Type 0
IsFormatFault numbers Output = ⊥
IsFormatFault numbers (Refused why) = IsUnformed numbers why
IsFormatFault numbers (Stopped at) = ⊥
IsFormatFault numbers (Unread why at) = ⊥
IsFormatFault numbers (Unscheduled why) = ⊥
