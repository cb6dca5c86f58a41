-- The texts of records and batches, and which values have one.
use Rattle.std.proofs.Math.ListN.{get_or}
use Rattle.std.specs.Prelude.{◌≡◌, ◌≢◌, ℕ, ◌+◌, ◌-◌, ◌^◌, ◌<◌, ◌≤◌, List, [], ◌∷◌, ◌++◌, length, Option, Some, None, IsSome, is_some, Bool, if◌then◌else◌}
use Rattle.std.specs.Int.{Width, w16, w32, w64, to_be_bytes, cast_unsigned}
use Rattle.std.specs.List.{flat_map, AllByRecursion}
use Rattle.mt_frame.specs.declared.TheConstants.{OPEN_GATE}
use Rattle.mt_base.specs.declared.limits.TheConstants.{MAX_BEGUN, MAX_COUNTERS, MAX_PAGES, MAX_RELATIONS, PAGE_BYTES}
use Rattle.mt_base.specs.Limits.{IsKey, IsValue, IsStep, limit_of}
use Rattle.mt_base.specs.declared.format.Format.{Format}
use Rattle.mt_frame.specs.declared.records.LoggedOp.{LoggedOp}
use Rattle.mt_frame.specs.declared.records.LoggedOp.TheVariants.{Insert, Update, Delete, Add}
use Rattle.mt_frame.specs.declared.records.Record.{Record}
use Rattle.mt_frame.specs.declared.records.Record.TheVariants.{Page, OpEnd, OpDropped, Commit, AbortEnd}

-- ---- texts

-- bytes after their number
abbrev pub counted : Width → List ℕ → List ℕ
counted w bytes = to_be_bytes w (length bytes) ++ bytes

-- a tag, and what it says to follow
abbrev pub operation_text : LoggedOp → List ℕ
operation_text (Insert relation key value) = 1 ∷ (relation ∷ []) ++ ((length key ∷ key) ++ counted w16 value)
operation_text (Update relation key value old) =
    2 ∷ (relation ∷ []) ++ ((length key ∷ key) ++ (counted w16 value ++ counted w16 old))
operation_text (Delete relation key old) = 3 ∷ (relation ∷ []) ++ ((length key ∷ key) ++ counted w16 old)
operation_text (Add counter step) = 4 ∷ (counter ∷ []) ++ to_be_bytes w64 (cast_unsigned w64 step)

-- 1 if an image follows, 0 if none does
abbrev pub flag_number : Bool → ℕ
flag_number image = if image then 1 else 0

abbrev pub image_text : Option (List ℕ) → List ℕ
image_text None = []
image_text (Some image) = image

-- transaction, operation, page, image flag, start, length
abbrev pub head_text : ℕ → ℕ → ℕ → Bool → ℕ → ℕ → List ℕ
head_text txn op page image start size =
    (to_be_bytes w64 txn ++ to_be_bytes w64 op) ++ (to_be_bytes w16 page
    ++ ((flag_number image ∷ []) ++ (to_be_bytes w16 start ++ to_be_bytes w16 size)))

-- a head, and the bytes: the image, if there is one, and the range's old and new ones
abbrev pub page_text : ℕ → ℕ → ℕ → Option (List ℕ) → ℕ → List ℕ → List ℕ → List ℕ
page_text txn op page image start old new =
    head_text txn op page (is_some image) start (length old) ++ (image_text image ++ (old ++ new))

-- a kind, and what it says to follow
abbrev pub record_text : Record → List ℕ
record_text (Page txn op page image start old new) = 1 ∷ page_text txn op page image start old new
record_text (OpEnd txn op undoes done) = 2 ∷ (to_be_bytes w64 txn ++ to_be_bytes w64 op)
    ++ (to_be_bytes w64 undoes ++ operation_text done)
record_text (OpDropped txn op) = 3 ∷ to_be_bytes w64 txn ++ to_be_bytes w64 op
record_text (Commit txn) = 4 ∷ to_be_bytes w64 txn
record_text (AbortEnd txn) = 5 ∷ to_be_bytes w64 txn

-- the records' texts, one after another
abbrev pub body_text : List Record → List ℕ
body_text records = flat_map record_text records

-- an open gate, the body's length, the body
abbrev pub batch_text : List Record → List ℕ
batch_text records = (OPEN_GATE ∷ []) ++ counted w32 (body_text records)

-- ---- which values have a text

abbrev pub IsTxn : ℕ → Type 0
IsTxn txn = (1 ≤ txn) × (txn ≤ MAX_BEGUN)

abbrev pub IsOp : ℕ → Type 0
IsOp op = (1 ≤ op) × (op < 2 ^ 64)

abbrev pub IsRelation : ℕ → Type 0
IsRelation relation = relation < MAX_RELATIONS

abbrev pub IsOperation : LoggedOp → Type 0
IsOperation (Insert relation key value) = IsRelation relation × IsKey key × IsValue value
IsOperation (Update relation key value old) = IsRelation relation × IsKey key × IsValue value × IsValue old
IsOperation (Delete relation key old) = IsRelation relation × IsKey key × IsValue old
IsOperation (Add counter step) = (counter < MAX_COUNTERS) × IsStep step

-- a whole page, if there is one
abbrev pub IsImage : Option (List ℕ) → Type 0
IsImage None = Unit {0}
IsImage (Some image) = length image ≡ PAGE_BYTES

abbrev pub last_of : List ℕ → ℕ
last_of bytes = get_or bytes (length bytes - 1) 0

-- nothing but the image
pub record IsImageAlone (op : ℕ) (image : Option (List ℕ)) (start : ℕ) (old : List ℕ) : Type 0 where
  pub no_operation : op ≡ 0
  pub there : IsSome image
  pub from_first : start ≡ 0
  pub no_bytes : length old ≡ 0

-- a change by an operation, of the shortest range that has it: its first and its last byte change
pub record IsChange (op : ℕ) (old new : List ℕ) : Type 0 where
  pub operation : 1 ≤ op
  pub some_bytes : 1 ≤ length old
  pub first_changes : get_or old 0 0 ≢ get_or new 0 0
  pub last_changes : last_of old ≢ last_of new

-- of transaction 0 a page record is an image alone, of any other a change
pub record IsPageRecord (txn op page : ℕ) (image : Option (List ℕ)) (start : ℕ) (old new : List ℕ) : Type 0 where
  pub txn_below : txn ≤ MAX_BEGUN
  pub op_below : op < 2 ^ 64
  pub page_below : page < MAX_PAGES
  pub whole : IsImage image
  pub same_length : length new ≡ length old
  pub in_page : start + length old ≤ PAGE_BYTES
  pub alone : txn ≡ 0 → IsImageAlone op image start old
  pub change : 1 ≤ txn → IsChange op old new

-- the record's numbers and lengths are within their limits, and it breaks no rule that speaks of one record
abbrev pub IsRecord : Record → Type 0
IsRecord (Page txn op page image start old new) = IsPageRecord txn op page image start old new
IsRecord (OpEnd txn op undoes done) = IsTxn txn × IsOp op × (undoes < 2 ^ 64) × IsOperation done
IsRecord (OpDropped txn op) = IsTxn txn × IsOp op
IsRecord (Commit txn) = IsTxn txn
IsRecord (AbortEnd txn) = IsTxn txn

-- the transaction that the record is of
abbrev pub txn_of : Record → ℕ
txn_of (Page txn op page image start old new) = txn
txn_of (OpEnd txn op undoes done) = txn
txn_of (OpDropped txn op) = txn
txn_of (Commit txn) = txn
txn_of (AbortEnd txn) = txn

-- the record is one of a page
abbrev pub IsOfPage : Record → Type 0
IsOfPage (Page txn op page image start old new) = Unit {0}
IsOfPage (OpEnd txn op undoes done) = ⊥
IsOfPage (OpDropped txn op) = ⊥
IsOfPage (Commit txn) = ⊥
IsOfPage (AbortEnd txn) = ⊥

-- the records may stand in one batch: its body's length has four bytes
pub record IsBatchable (records : List Record) : Type 0 where
  pub each : AllByRecursion IsRecord records
  pub short : length (body_text records) < 2 ^ 32

-- ---- which of them are of a format

-- no value is longer than one may be in this format
abbrev pub IsOperationOf : Format → LoggedOp → Type 0
IsOperationOf format (Insert relation key value) = length value ≤ limit_of format
IsOperationOf format (Update relation key value old) = (length value ≤ limit_of format) × (length old ≤ limit_of format)
IsOperationOf format (Delete relation key old) = length old ≤ limit_of format
IsOperationOf format (Add counter step) = Unit {0}

abbrev pub IsRecordOf : Format → Record → Type 0
IsRecordOf format (Page txn op page image start old new) = Unit {0}
IsRecordOf format (OpEnd txn op undoes done) = IsOperationOf format done
IsRecordOf format (OpDropped txn op) = Unit {0}
IsRecordOf format (Commit txn) = Unit {0}
IsRecordOf format (AbortEnd txn) = Unit {0}

abbrev pub AreOfFormat : Format → List Record → Type 0
AreOfFormat format records = AllByRecursion (IsRecordOf format) records

-- ---- what bytes are

-- the bytes are a row of whole records, these
pub record IsBody (bytes : List ℕ) (records : List Record) : Type 0 where
  pub each : AllByRecursion IsRecord records
  pub text : bytes ≡ body_text records

-- the first so many bytes are an open batch of these records
pub record IsBatch (bytes : List ℕ) (records : List Record) (size : ℕ) : Type 0 where
  pub batchable : IsBatchable records
  pub front : (rest : List ℕ) × (bytes ≡ batch_text records ++ rest)
  pub length_of : size ≡ length (batch_text records)

-- the same, of records that this format has
pub record IsBodyOf (format : Format) (bytes : List ℕ) (records : List Record) : Type 0 where
  pub row : IsBody bytes records
  pub values : AreOfFormat format records

pub record IsBatchOf (format : Format) (bytes : List ℕ) (records : List Record) (size : ℕ) : Type 0 where
  pub batch : IsBatch bytes records size
  pub values : AreOfFormat format records
