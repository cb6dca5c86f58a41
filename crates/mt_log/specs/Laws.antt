-- The laws of a log: what follows of its calls, what a crash leaves of it, and that an area is read in one way.
use Rattle.std.specs.Prelude.{◌<◌, ◌≡◌, ℕ, ◌+◌, ◌^◌, List, Result, false, length, true}
use Rattle.mt_base.specs.declared.refusal.Refusal.{Refusal}
use Rattle.mt_disk.specs.Calls.{Meanwhile}
use Rattle.mt_disk.specs.declared.device.Device.{Ghosts}
use Rattle.mt_frame.specs.Grammar.{IsRecord, body_text}
use Rattle.mt_area_rules.specs.History.{may_stand}
use Rattle.mt_frame.specs.Lengths.{record_length}
use Rattle.mt_frame.specs.declared.records.Record.{Record}
use Rattle.mt_log.specs.First.{HasBegun, IsBegun}
use Rattle.mt_log.specs.Holds.{BreaksAt, HasItsPage, HoldsBatches, HoldsOf}
use Rattle.mt_base.specs.declared.format.Format.{Format}
use Rattle.mt_log.specs.Seen.{bytes_in, first_log, with_record}
use Rattle.mt_log.specs.Sound.{IsSound, HoldsBeginning}
use Rattle.mt_log.specs.Stepped.{Stepped}
use Rattle.mt_log.specs.Steps.{ForceSteps}
use Rattle.mt_log.specs.Words.{appended, seen_of, used}
use Rattle.mt_log.specs.declared.area.AreaPlace.{AreaPlace}
use Rattle.mt_log.specs.declared.log.Forced.{Forced}
use Rattle.mt_log.specs.declared.log.Log.{Log}

-- what follows of each step of a force
abbrev pub StepsSayAll : Type 0
StepsSayAll =
    (old new : Log) (result : Result Forced Refusal) → ForceSteps (seen_of old) (seen_of new) result
    → Stepped old new result

-- a record that may stand after the others leaves a log whose records break no rule
abbrev pub AppendsKeepRules : Type 0
AppendsKeepRules =
    (pages : ℕ) (old new : Log) (entry : Record) → seen_of new ≡ with_record (seen_of old) entry
    → IsRecord entry → HasItsPage pages entry → may_stand false (appended old) entry ≡ true → IsSound pages old
    → IsSound pages new

-- a record that waits takes its length, and a head of 5 bytes
abbrev pub AppendsTakeBytes : Type 0
AppendsTakeBytes =
    (old new : Log) (entry : Record) → seen_of new ≡ with_record (seen_of old) entry
    → used new ≡ used old + 5 + record_length entry

-- what follows of an area that has begun, and the bytes that its first batch takes
abbrev pub BeginningsSayAll : Type 0
BeginningsSayAll =
    (place : AreaPlace) (records : List Record) (log : Log) → IsBegun place records log
    → HasBegun place records log

abbrev pub FirstTakesBytes : Type 0
FirstTakesBytes =
    (place : AreaPlace) (records : List Record) → bytes_in (first_log place records) ≡ 5 + length (body_text records)

-- while the appended records break no rule, each content that may be left holds a beginning of them with all durable
-- ones
abbrev pub LeavesBeginning : Log → (List ℕ → Type 0) → Type 0
LeavesBeginning log may_leave = (pages : ℕ) (c : List ℕ) → IsSound pages log → may_leave c → HoldsBeginning pages log c

-- whenever a crash comes between these two states of the device, its content holds such a beginning
abbrev pub LeavesBeginningMeanwhile : {D : Type 0} → Ghosts D → Log → D → D → Type 0
LeavesBeginningMeanwhile g log old new =
    (pages : ℕ) → IsSound pages log → Meanwhile g old new (HoldsBeginning pages log)

-- it holds one row of batches
abbrev pub OneRow : Type 0
OneRow = (c : List ℕ) (start end pages : ℕ) (xs ys : List (List Record)) → end < start + 2 ^ 32
    → HoldsBatches c start end pages xs → HoldsBatches c start end pages ys → xs ≡ ys

-- and then breaks the grammar of their format nowhere
abbrev pub NotBoth : Type 0
NotBoth = (format : Format) (c : List ℕ) (start end pages place : ℕ) (xs : List (List Record)) → end < start + 2 ^ 32
    → HoldsOf format c start end pages xs → BreaksAt format c start end pages place → ⊥

-- or breaks the grammar at one place first
abbrev pub OneFirstPlace : Type 0
OneFirstPlace = (format : Format) (c : List ℕ) (start end pages p q : ℕ) → end < start + 2 ^ 32
    → BreaksAt format c start end pages p → BreaksAt format c start end pages q → p ≡ q
