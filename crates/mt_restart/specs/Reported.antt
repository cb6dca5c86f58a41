-- What is reported of a device's log, and of its pages.
use Rattle.std.specs.Prelude.{◌≡◌, ℕ, List}
use Rattle.mt_frame.specs.declared.slots.MasterSlot.{MasterSlot}
use Rattle.mt_replay.specs.Refused.{IsLog}
use Rattle.mt_replay.specs.declared.figures.Figures.{Figures}
use Rattle.mt_restart.specs.Inspected.{IsSound}
use Rattle.mt_restart.specs.declared.report_figures.Report.{Report}

-- format, epoch and area of the ruling slot, and the figures of the batches of that area
pub record IsReport (c : List ℕ) (report : Report) : Type 0 where
  pub slot : MasterSlot
  pub figures : Figures
  pub log : IsLog c slot figures
  pub format_is : report.format ≡ slot.format
  pub epoch : report.epoch ≡ slot.epoch
  pub area : report.area ≡ slot.area
  pub batches : report.batches ≡ figures.batches
  pub records : report.records ≡ figures.records
  pub commits : report.commits ≡ figures.commits

-- and the pages that a restart makes of the same bytes break no rule
pub record IsChecked (c : List ℕ) (report : Report) : Type 0 where
  pub log : IsReport c report
  pub pages : IsSound c
