-- What a step of an operation appends to the log.
use Rattle.std.specs.Prelude.{◌≡◌, ◌⊎◌, ◌++◌, ◌∷◌, [], ℕ, zero, suc, List, Contains, Option, None, Some, Result, Ok, Err}
use Rattle.mt_base.specs.Edits.{patched}
use Rattle.mt_base.specs.declared.refusal.Refusal.{Refusal}
use Rattle.mt_frame.specs.declared.records.Record.{Record}
use Rattle.mt_frame.specs.declared.records.Record.TheVariants.{OpEnd, OpDropped}
use Rattle.mt_frame.specs.declared.records.LoggedOp.{LoggedOp}
use Rattle.mt_model.specs.declared.operations.Reply.{Reply}
use Rattle.mt_frame.specs.PageRecords.{change_records}
use Rattle.mt_space.specs.declared.changes.PageChange.{PageChange}
use Rattle.mt_steps.specs.Logged.{logged_of}
use Rattle.mt_op.specs.World.{changes_in}
use Rattle.mt_op.specs.declared.answers.Stepped.{Stepped}
use Rattle.mt_op.specs.declared.answers.Stepped.TheVariants as stepped
use Rattle.mt_op.specs.declared.answers.TakenBack.{TakenBack}
use Rattle.mt_op.specs.declared.answers.TakenBack.TheVariants as taken
use Rattle.mt_op.specs.declared.scope.OpScope.{OpScope}

-- the record that an operation ends with, if it did anything
abbrev pub end_with : ℕ → ℕ → ℕ → Option LoggedOp → List Record
end_with txn number undoes None = []
end_with txn number undoes (Some done) = OpEnd txn number undoes done ∷ []

abbrev pub end_of : OpScope → Reply → List Record
end_of s reply = end_with s.txn s.number s.undoes (logged_of s.op reply)

-- nothing more, or the records of one of its changes over some bytes of the page
abbrev pub HasPageMore : OpScope → List Record → List Record → Type 0
HasPageMore s old new =
    (new ≡ old) ⊎ ((c : PageChange) × (image : Option (List ℕ)) × (bytes : List ℕ) × Contains (changes_in s) c
    × (new ≡ old ++ change_records s.txn s.number c.page image bytes (patched c.edits.items bytes) c.edits.items))

-- The records stay if the operation waits, begins anew or is refused; a step that goes on may append those of a
-- page. What is appended if it has ended is said by Acts.
abbrev pub KeepsRecords : OpScope → List Record → List Record → Result Stepped Refusal → Type 0
KeepsRecords s old new (Ok stepped.Went) = HasPageMore s old new
KeepsRecords s old new (Ok (stepped.Wait holder)) = new ≡ old
KeepsRecords s old new (Ok (stepped.Again holder)) = new ≡ old
KeepsRecords s old new (Ok stepped.Flush) = new ≡ old
KeepsRecords s old new (Ok (stepped.Ready first second)) = Unit {0}
KeepsRecords s old new (Err why) = new ≡ old

-- ---- a step of a taking back

-- the record of the taking back, if any page still stands
abbrev pub dropped_with : ℕ → ℕ → ℕ → List Record
dropped_with txn number zero = []
dropped_with txn number (suc standing) = OpDropped txn number ∷ []

-- Nothing is appended but that record, with the last page.
abbrev pub ReportsDropped : OpScope → List Record → List Record → Result TakenBack Refusal → Type 0
ReportsDropped s old new (Ok taken.Clear) = new ≡ old ++ dropped_with s.txn s.number s.standing
ReportsDropped s old new (Ok taken.More) = new ≡ old
ReportsDropped s old new (Ok taken.Flush) = new ≡ old
ReportsDropped s old new (Err why) = new ≡ old
