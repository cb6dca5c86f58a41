-- What the batches of an area come to, in figures.
use Rattle.std.specs.Prelude.{◌≡◌, Bool, true, false, List, length, count_by}
use Rattle.mt_frame.specs.declared.records.Record.{Record}
use Rattle.mt_frame.specs.declared.records.Record.TheVariants.{Page, OpEnd, OpDropped, Commit, AbortEnd}
use Rattle.mt_log.specs.Batch.{joined}
use Rattle.mt_replay.specs.declared.figures.Figures.{Figures}

abbrev pub is_commit : Record → Bool
is_commit (Commit txn) = true
is_commit (Page txn op page image start old new) = false
is_commit (OpEnd txn op undoes done) = false
is_commit (OpDropped txn op) = false
is_commit (AbortEnd txn) = false

-- as many batches, records in them, and commits among these
pub record AreFigures (batches : List (List Record)) (figures : Figures) : Type 0 where
  pub batches_reported : figures.batches ≡ length batches
  pub records_reported : figures.records ≡ length (joined batches)
  pub commits_reported : figures.commits ≡ count_by is_commit (joined batches)
