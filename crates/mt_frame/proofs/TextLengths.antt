-- How long the texts of records are.
use Rattle.std.proofs.Common.{◌≡◌, ◌++◌, Some, None, length, refl, arith, length-append}
use Rattle.std.specs.Int.{w16}
use Rattle.mt_frame.specs.Grammar.{counted, record_text}
use Rattle.mt_frame.specs.Lengths.{record_length}
use Rattle.mt_frame.specs.declared.records.LoggedOp.TheVariants.{Insert, Update, Delete, Add}
use Rattle.mt_frame.specs.declared.records.Record.{Record}
use Rattle.mt_frame.specs.declared.records.Record.TheVariants.{Page, OpEnd, OpDropped, Commit, AbortEnd}

pub length-record_text : (r : Record) → length (record_text r) ≡ record_length r
length-record_text (Page txn op page None start old new) = omega (arith, length-append old new)
length-record_text (Page txn op page (Some image) start old new) = omega (arith, length-append image (old ++ new), length-append old new)
length-record_text (OpEnd txn op undoes (Insert relation key value)) = omega (arith, length-append key (counted w16 value))
length-record_text (OpEnd txn op undoes (Update relation key value old)) = omega (arith, length-append key (counted w16 value ++ counted w16 old), length-append value (counted w16 old))
length-record_text (OpEnd txn op undoes (Delete relation key old)) = omega (arith, length-append key (counted w16 old))
length-record_text (OpEnd txn op undoes (Add counter step)) = refl
length-record_text (OpDropped txn op) = refl
length-record_text (Commit txn) = refl
length-record_text (AbortEnd txn) = refl
