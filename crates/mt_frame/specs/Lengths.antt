-- How long the texts of records are.
use Rattle.std.specs.Prelude.{ℕ, ◌+◌, List, length, Option, Some, None}
use Rattle.mt_frame.specs.declared.records.LoggedOp.{LoggedOp}
use Rattle.mt_frame.specs.declared.records.LoggedOp.TheVariants.{Insert, Update, Delete, Add}
use Rattle.mt_frame.specs.declared.records.Record.{Record}
use Rattle.mt_frame.specs.declared.records.Record.TheVariants.{Page, OpEnd, OpDropped, Commit, AbortEnd}

abbrev pub operation_length : LoggedOp → ℕ
operation_length (Insert relation key value) = 5 + length key + length value
operation_length (Update relation key value old) = 7 + length key + length value + length old
operation_length (Delete relation key old) = 5 + length key + length old
operation_length (Add counter step) = 10

abbrev pub image_length : Option (List ℕ) → ℕ
image_length None = 0
image_length (Some image) = length image

abbrev pub record_length : Record → ℕ
record_length (Page txn op page image start old new) = 24 + image_length image + length old + length new
record_length (OpEnd txn op undoes done) = 25 + operation_length done
record_length (OpDropped txn op) = 17
record_length (Commit txn) = 9
record_length (AbortEnd txn) = 9
