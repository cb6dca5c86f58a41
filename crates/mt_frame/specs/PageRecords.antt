-- The records of a change of one page, and what they make of its bytes.
use Rattle.std.specs.Prelude.{ℕ, List, [], ◌∷◌, length, Option, None, Some, ◌==◌, if◌then◌else◌}
use Rattle.std.specs.Borrow.{Bor}
use Rattle.mt_base.specs.Edits.{splice}
use Rattle.mt_base.specs.Ranges.{part}
use Rattle.mt_base.specs.declared.edits.Edit.{Edit}
use Rattle.mt_frame.specs.declared.records.PageRecord.{PageRecord}
use Rattle.mt_frame.specs.declared.records.Record.{Record}
use Rattle.mt_frame.specs.declared.records.Record.TheVariants.{Page, OpEnd, OpDropped, Commit, AbortEnd}

-- the record of an edit's range, of a page that is `old` before the whole change and `new` after it
abbrev pub range_record : ℕ → ℕ → ℕ → Option (List ℕ) → List ℕ → List ℕ → Edit → Record
range_record txn op page image old new e =
    Page txn op page image e.start (part old e.start (length e.bytes)) (part new e.start (length e.bytes))

-- one record for each edit, the first one with the image
abbrev pub change_records : ℕ → ℕ → ℕ → Option (List ℕ) → List ℕ → List ℕ → List Edit → List Record
change_records txn op page image old new [] = []
change_records txn op page image old new (e ∷ es) =
    range_record txn op page image old new e ∷ change_records txn op page None old new es

-- a page's bytes with those that the records of it put there, in their order
abbrev pub with_record : ℕ → Record → List ℕ → List ℕ
with_record p (Page txn op page image start old new) bytes = if page == p then splice start new bytes else bytes
with_record p (OpEnd txn op undoes done) bytes = bytes
with_record p (OpDropped txn op) bytes = bytes
with_record p (Commit txn) bytes = bytes
with_record p (AbortEnd txn) bytes = bytes

abbrev pub redone : ℕ → List Record → List ℕ → List ℕ
redone p [] bytes = bytes
redone p (r ∷ rs) bytes = redone p rs (with_record p r bytes)

-- the image that lent bytes are, if there are any
abbrev pub lent_image : Option (Bor (List ℕ)) → Option (List ℕ)
lent_image None = None
lent_image (Some image) = Some image.now

-- the record that a page's record with lent bytes represents
abbrev pub represented : PageRecord → Record
represented r = Page r.txn r.op r.page (lent_image r.image) r.start r.old.now r.new.now
