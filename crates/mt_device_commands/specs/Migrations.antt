-- What `migrate` makes of the device in a file.
use Rattle.std.specs.Prelude.{ℕ, ◌+◌, ◌⊎◌, List, Option, length, min}
use Rattle.mt_args.specs.declared.numbers.Growth.{Growth}
use Rattle.mt_base.specs.declared.format.Format.TheVariants.{One}
use Rattle.mt_base.specs.declared.refusal.Refusal.{Refusal}
use Rattle.mt_device_commands.specs.Checks.{IsContentOf}
use Rattle.mt_device_commands.specs.Dumps.{IsEarly}
use Rattle.mt_folder.specs.Folders.{AreKept, Files, IsFileRefusal, IsHeld, Puts}
use Rattle.mt_model.specs.Model.{Base}
use Rattle.mt_replay.specs.Stands.{CanReplay, CanRestart}
use Rattle.mt_report.specs.declared.faults.Fault.{Fault}
use Rattle.mt_report.specs.declared.faults.Fault.TheVariants.{Refused}
use Rattle.mt_restart.specs.Migrated.{Additions, IsCauseNotToCarry, grown}

-- what a schema is asked to get more; 65,535 represents each number of relations that is larger, since no schema takes
-- as many
abbrev pub additions : Growth → Additions
additions g = record { relations = min g.relations 65535; new_counters = g.counters.items }

-- ---- of which bytes

-- these bytes are of format 2, and represent the base that those did in format 1, with the counters more
abbrev pub StandsGrown : Additions → List ℕ → List ℕ → Type 0
StandsGrown more c d = (relations counters : ℕ) (b : Base) → CanReplay One relations counters c b
    → CanRestart (relations + more.relations) (counters + length more.new_counters) d (grown more counters b)

-- or they are of format 1, and represent it
abbrev pub StandsOrGrown : Additions → List ℕ → List ℕ → Type 0
StandsOrGrown more c d = (relations counters : ℕ) (b : Base) → CanReplay One relations counters c b
    → CanReplay One relations counters d b
    ⊎ CanRestart (relations + more.relations) (counters + length more.new_counters) d (grown more counters b)

-- ---- of which file

-- The file of this name has other bytes, which stand so to those that it had. Each other file is as before.
pub record IsRewritten (Stands : List ℕ → List ℕ → Type 0) (old new : Files) (name : List ℕ) : Type 0 where
  pub before : List ℕ
  pub after : List ℕ
  pub held : IsHeld old name before
  pub put : Puts old new name after
  pub stands : Stands before after

-- why the device of a file is not carried over
abbrev pub IsNotMigrated : Additions → Option (List ℕ) → Refusal → Type 0
IsNotMigrated more bytes why =
    IsFileRefusal bytes why ⊎ ((c : List ℕ) × IsContentOf bytes c × IsCauseNotToCarry more c (Unit {0}) why)

-- if it is refused so, each file is as before, or the one of this name is carried over or represents the same
pub record AreLeftUnmigrated (more : Additions) (old new : Files) (name : List ℕ) (why : Refusal) : Type 0 where
  pub stands : AreKept old new ⊎ IsRewritten (StandsOrGrown more) old new name
  pub early : IsEarly why → AreKept old new

-- the same, of a fault
abbrev pub IsMigrateFault : Additions → Option (List ℕ) → Fault → Type 0
IsMigrateFault more bytes (Refused why) = IsNotMigrated more bytes why
IsMigrateFault more bytes _ = ⊥

abbrev pub AreMigrateFiles : Additions → Files → Files → List ℕ → Fault → Type 0
AreMigrateFiles more old new name (Refused why) = AreLeftUnmigrated more old new name why
AreMigrateFiles more old new name _ = ⊥
