-- What a step of a transaction appends to the log.
use Rattle.std.specs.Prelude.{ℕ, ◌≡◌, ◌⊎◌, ◌≤◌, ◌+◌, ◌++◌, ◌∷◌, [], List, length, Result, Ok, Err}
use Rattle.mt_base.specs.declared.refusal.Refusal.{Refusal}
use Rattle.mt_frame.specs.declared.records.Record.{Record}
use Rattle.mt_frame.specs.declared.records.Record.TheVariants as record_of
use Rattle.mt_core.specs.Writes.{AddsOnePage}
use Rattle.mt_txn.specs.declared.answers.AbortStepped.{AbortStepped}
use Rattle.mt_txn.specs.declared.answers.AbortStepped.TheVariants as abort
use Rattle.mt_txn.specs.declared.answers.Stepped.{Stepped}
use Rattle.mt_txn.specs.declared.answers.Stepped.TheVariants as step

-- One that went on appends the records of one page at most, and one that ended a record at most. Any other appends
-- none.
abbrev pub WritesOnePage : List Record → List Record → Result Stepped Refusal → Type 0
WritesOnePage old new (Ok (step.Replied reply)) = length new ≤ length old + 1
WritesOnePage old new (Ok step.Went) = AddsOnePage old new
WritesOnePage old new (Ok (step.Wait other)) = new ≡ old
WritesOnePage old new (Ok step.Again) = new ≡ old
WritesOnePage old new (Ok step.Flush) = new ≡ old
WritesOnePage old new (Err why) = new ≡ old

-- A step that undoes and went on appends the records of one page at most, or one record. The end appends what AtEnd
-- says. Any other appends none.
abbrev pub UndoingWrites : (List Record → List Record → Type 0) → List Record → List Record
    → Result AbortStepped Refusal → Type 0
UndoingWrites AtEnd old new (Ok abort.More) = AddsOnePage old new ⊎ (length new ≤ length old + 1)
UndoingWrites AtEnd old new (Ok (abort.Wait other)) = new ≡ old
UndoingWrites AtEnd old new (Ok abort.Again) = new ≡ old
UndoingWrites AtEnd old new (Ok abort.Flush) = new ≡ old
UndoingWrites AtEnd old new (Ok abort.Ended) = AtEnd old new
UndoingWrites AtEnd old new (Err why) = new ≡ old

-- the end of an abort appends its record
abbrev pub LogsEnd : ℕ → List Record → List Record → Type 0
LogsEnd t old new = new ≡ old ++ record_of.AbortEnd t ∷ []

-- and that of going back appends none
abbrev pub LogsNothing : List Record → List Record → Type 0
LogsNothing old new = new ≡ old
