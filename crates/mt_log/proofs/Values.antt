-- Each record of the grammar is one of format 2.
use Rattle.std.proofs.Common.{List, [], ◌∷◌, arith}
use Rattle.std.specs.List.{AllByRecursion}
use Rattle.mt_base.specs.declared.format.Format.TheVariants.{Two}
use Rattle.mt_frame.specs.Grammar.{AreOfFormat, IsOperation, IsOperationOf, IsRecord, IsRecordOf}
use Rattle.mt_frame.specs.declared.records.LoggedOp.{LoggedOp}
use Rattle.mt_frame.specs.declared.records.LoggedOp.TheVariants.{Insert, Update, Delete, Add}
use Rattle.mt_frame.specs.declared.records.Record.{Record}
use Rattle.mt_frame.specs.declared.records.Record.TheVariants.{Page, OpEnd, OpDropped, Commit, AbortEnd}
use Rattle.mt_log.specs.Holds.{AreBatches, AreBatchesOf, HoldsBatches, HoldsOf}
use Rattle.std.proofs.Common.{ℕ}

operation_of_two : (o : LoggedOp) → IsOperation o → IsOperationOf Two o
operation_of_two (Insert relation key value) is = is.2
operation_of_two (Update relation key value old) is = (is.2, is.3)
operation_of_two (Delete relation key old) is = is.2
operation_of_two (Add counter step) is = tt

record_of_two : (r : Record) → IsRecord r → IsRecordOf Two r
record_of_two (Page txn op page image start old new) is = tt
record_of_two (OpEnd txn op undoes done) is = operation_of_two done is.3
record_of_two (OpDropped txn op) is = tt
record_of_two (Commit txn) is = tt
record_of_two (AbortEnd txn) is = tt

pub records_of_two : (rs : List Record) → AllByRecursion IsRecord rs → AreOfFormat Two rs
records_of_two [] all = tt
records_of_two (r ∷ rs) all = (record_of_two r all.0, records_of_two rs all.1)

pub batches_of_two : (pages : ℕ) (bs : List (List Record)) → AreBatches pages bs → AreBatchesOf Two bs
batches_of_two pages [] all = tt
batches_of_two pages (b ∷ bs) all = (records_of_two b all.0.0, batches_of_two pages bs all.1)

pub holds_of_two : (c : List ℕ) (start end pages : ℕ) (bs : List (List Record)) → HoldsBatches c start end pages bs → HoldsOf Two c start end pages bs
holds_of_two c start end pages bs held = record { held = held; of_format = batches_of_two pages bs held.each }
