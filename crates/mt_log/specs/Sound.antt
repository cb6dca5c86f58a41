-- The records of a log as those of an area, and what of them an area holds after a crash.
use Rattle.std.specs.Prelude.{◌<◌, ◌≡◌, ℕ, List, [], ◌∷◌, ◌++◌, length}
use Rattle.mt_frame.specs.declared.records.Record.{Record}
use Rattle.mt_area_rules.specs.History.{IsHistory}
use Rattle.mt_log.specs.Batch.{joined}
use Rattle.mt_log.specs.Holds.{AreRecords, HoldsBatches}
use Rattle.mt_log.specs.Words.{durable_batches, durable, in_flight, waiting, appended, area_start, area_end}
use Rattle.mt_log.specs.declared.log.Log.{Log}

-- The area has its first batch, each record is one of the grammar on a device of so many pages, and those after the
-- durable ones break no rule there, in whatever batches they come.
pub record IsSound (pages : ℕ) (log : Log) : Type 0 where
  pub begun : 0 < length (durable_batches log)
  pub each : AreRecords pages (appended log)
  pub rules : IsHistory (durable_batches log ++ (in_flight log ++ waiting log) ∷ [])

-- the records of these batches are a beginning of the appended ones that has all durable ones
pub record IsBeginning (log : Log) (batches : List (List Record)) : Type 0 where
  pub more : List Record
  pub has_durable : joined batches ≡ durable log ++ more
  pub rest : List Record
  pub of_appended : joined batches ++ rest ≡ appended log

-- the log's area holds such batches
pub record HoldsBeginning (pages : ℕ) (log : Log) (c : List ℕ) : Type 0 where
  pub batches : List (List Record)
  pub held : HoldsBatches c (area_start log) (area_end log) pages batches
  pub beginning : IsBeginning log batches
