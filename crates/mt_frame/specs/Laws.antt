-- What the grammar promises of every text.
use Rattle.std.specs.Prelude.{◌≡◌, ℕ, List, ◌++◌, length}
use Rattle.mt_frame.specs.declared.records.Record.{Record}
use Rattle.mt_frame.specs.declared.slots.MasterSlot.{MasterSlot}
use Rattle.mt_frame.specs.Grammar.{record_text, batch_text, IsBatchable, IsBatch, IsBody}
use Rattle.mt_frame.specs.Lengths.{record_length}
use Rattle.mt_frame.specs.SlotText.{IsSlotText}

-- no bytes begin with two batches
abbrev pub OneBatch : Type 0
OneBatch =
    (bytes : List ℕ) (xs ys : List Record) (m n : ℕ) → IsBatch bytes xs m → IsBatch bytes ys n → (xs ≡ ys) × (m ≡ n)

-- no bytes are the rows of two lists of records
abbrev pub OneBody : Type 0
OneBody = (bytes : List ℕ) (xs ys : List Record) → IsBody bytes xs → IsBody bytes ys → xs ≡ ys

-- whatever follows the text of a batch, the batch is read, and nothing else
abbrev pub BatchReadBack : Type 0
BatchReadBack = (records : List Record) (rest : List ℕ) → IsBatchable records →
    IsBatch (batch_text records ++ rest) records (length (batch_text records))
    × ((others : List Record) (size : ℕ) → IsBatch (batch_text records ++ rest) others size
    → (others ≡ records) × (size ≡ length (batch_text records)))

-- a record's length is its text's
abbrev pub LengthOfText : Type 0
LengthOfText = (r : Record) → length (record_text r) ≡ record_length r

-- no bytes are the text of two slots
abbrev pub OneSlot : Type 0
OneSlot = (bytes : List ℕ) (s t : MasterSlot) → IsSlotText bytes s → IsSlotText bytes t → s ≡ t
