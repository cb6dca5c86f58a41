-- The log of a device as lines, and what a restart makes of it.
use Rattle.std.specs.Prelude.{ℕ, ℤ, ◌==◌, ◌&&◌, ◌||◌, not, nat_le, Bool, if◌then◌else◌, List, [], ◌∷◌, ◌++◌, Option, Some, None, codes, filter, length, map}
use Rattle.std.specs.Fmt.{decimal, signed_decimal}
use Rattle.std.specs.List.{concat, list_all, list_any}
use Rattle.mt_frame.specs.declared.records.LoggedOp.{LoggedOp}
use Rattle.mt_frame.specs.declared.records.Record.{Record}
use Rattle.mt_frame.specs.declared.records.Record.TheVariants.{Page, OpEnd, OpDropped, Commit, AbortEnd}
use Rattle.mt_model.specs.declared.operations.Op.{Op}
use Rattle.mt_model.specs.declared.operations.Op.TheVariants.{Get, Insert, Update, Delete, Add, Read, Scan}
use Rattle.mt_log.specs.Batch.{joined}
use Rattle.mt_log.specs.Found.{records_of}
use Rattle.mt_log.specs.declared.batch.Batch.{Batch}
use Rattle.mt_replay.specs.Recorded.{Finished, losers, op_of, undo_of}
use Rattle.mt_explain.specs.Listings.{hex_text, numbered}
use Rattle.mt_explain.specs.declared.unfinished.Unfinished.{Unfinished}

-- ---- an operation

-- a key: in quotes if all of its bytes are printable and none is a quote, and else as hexadecimal digits
abbrev pub is_plain : ℕ → Bool
is_plain b = (nat_le 32 b && nat_le b 126) && not (b == 34)

abbrev pub key_text : List ℕ → List ℕ
key_text k = if list_all is_plain k then 34 ∷ (k ++ 34 ∷ []) else hex_text k

abbrev pub keyed_start : List ℕ → ℕ → List ℕ
keyed_start word relation = word ++ (decimal relation ++ 32 ∷ [])

abbrev pub length_end : List ℕ → List ℕ
length_end value = codes " length " ++ (decimal (length value) ++ 10 ∷ [])

abbrev pub valued_line : List ℕ → ℕ → List ℕ → List ℕ → List ℕ
valued_line word relation key value = (keyed_start word relation ++ key_text key) ++ length_end value

abbrev pub keyed_line : List ℕ → ℕ → List ℕ → List ℕ
keyed_line word relation key = (keyed_start word relation ++ key_text key) ++ 10 ∷ []

abbrev pub added_line : ℕ → ℤ → List ℕ
added_line counter step = codes "add " ++ (decimal counter ++ 32 ∷ (signed_decimal step ++ 10 ∷ []))

-- the operation's word, and what it is of
abbrev pub op_line : Op → List ℕ
op_line (Get r k) = keyed_line (codes "get ") r k
op_line (Insert r k v) = valued_line (codes "insert ") r k v
op_line (Update r k v) = valued_line (codes "update ") r k v
op_line (Delete r k) = keyed_line (codes "delete ") r k
op_line (Add c d) = added_line c d
op_line (Read c) = codes "read " ++ (decimal c ++ 10 ∷ [])
op_line (Scan r) = codes "scan " ++ (decimal r ++ 10 ∷ [])

abbrev pub done_line : LoggedOp → List ℕ
done_line done = op_line (op_of done)

abbrev pub inverse_line : LoggedOp → List ℕ
inverse_line done = op_line (undo_of done)

-- ---- a record

abbrev pub op_start : ℕ → ℕ → List ℕ
op_start txn op = codes "txn " ++ (decimal txn ++ (codes " op " ++ (decimal op ++ 32 ∷ [])))

abbrev pub txn_line : ℕ → List ℕ → List ℕ
txn_line txn end = codes "txn " ++ (decimal txn ++ 32 ∷ (end ++ 10 ∷ []))

abbrev pub undoes_text : ℕ → List ℕ
undoes_text undoes = if undoes == 0 then [] else codes "undoes " ++ (decimal undoes ++ codes " by ")

abbrev pub image_line : ℕ → List ℕ
image_line page = codes "image of page " ++ (decimal page ++ 10 ∷ [])

abbrev pub image_end : Option (List ℕ) → List ℕ
image_end None = 10 ∷ []
image_end (Some image) = codes " with image\n"

abbrev pub change_line : ℕ → ℕ → ℕ → Option (List ℕ) → List ℕ
change_line page start many image = codes "page " ++ (decimal page
    ++ (codes " from " ++ (decimal start ++ (codes " length " ++ (decimal many ++ image_end image)))))

abbrev pub entry_line : Record → List ℕ
entry_line (Page txn op page image start old new) =
    if txn == 0 then image_line page else op_start txn op ++ change_line page start (length new) image
entry_line (OpEnd txn op undoes done) = (op_start txn op ++ undoes_text undoes) ++ done_line done
entry_line (OpDropped txn op) = op_start txn op ++ codes "dropped\n"
entry_line (Commit txn) = txn_line txn (codes "commit")
entry_line (AbortEnd txn) = txn_line txn (codes "aborted")

-- after the number of its batch, from 1, and the offset of that on the device
abbrev pub batch_start : ℕ → ℕ → List ℕ
batch_start number place = codes "batch " ++ (decimal number ++ (codes " at " ++ (decimal place ++ 32 ∷ [])))

abbrev pub record_line : ℕ → ℕ → Record → List ℕ
record_line number place r = batch_start number place ++ entry_line r

-- ---- what a restart does

abbrev pub restart_start : ℕ → ℕ → List ℕ
restart_start txn op = codes "restart " ++ op_start txn op

abbrev pub put_back_line : Unfinished → List ℕ
put_back_line u = restart_start u.txn u.op ++ codes "put back\n"

abbrev pub undo_line : Finished → List ℕ
undo_line f = (restart_start f.txn f.op ++ codes "undone by ") ++ inverse_line f.done

-- the last one first
abbrev pub undo_lines : List Finished → List ℕ
undo_lines [] = []
undo_lines (f ∷ fs) = undo_lines fs ++ undo_line f

-- ---- operations that have not ended: of a transaction's page records, those without an end or a taking back

abbrev pub is_one : ℕ → ℕ → Unfinished → Bool
is_one txn op u = (u.txn == txn) && (u.op == op)

abbrev pub leave_out : ℕ → ℕ → List Unfinished → List Unfinished
leave_out txn op us = filter (λ (u : Unfinished). not (u.txn == txn) || not (u.op == op)) us

-- with the next record
abbrev pub noted : List Unfinished → Record → List Unfinished
noted us (Page txn op page image start old new) =
    if (txn == 0) || list_any (is_one txn op) us then us else us ++ record { txn = txn; op = op } ∷ []
noted us (OpEnd txn op undoes done) = leave_out txn op us
noted us (OpDropped txn op) = leave_out txn op us
noted us (Commit txn) = us
noted us (AbortEnd txn) = us

abbrev pub note_all : List Unfinished → List Record → List Unfinished
note_all us [] = us
note_all us (r ∷ rs) = note_all (noted us r) rs

abbrev pub unfinished : List Record → List Unfinished
unfinished rs = note_all [] rs

-- ---- all of it

abbrev pub batch_lines : ℕ → Batch → List ℕ
batch_lines number batch = concat (map (record_line number batch.place) batch.records.items)

-- the records of these batches, the operations that are put back, and those that are undone
abbrev pub explained : List Batch → List ℕ
explained batches = (numbered batch_lines 1 batches ++ concat
    (map put_back_line (unfinished (joined (records_of batches))))) ++ undo_lines (losers (joined (records_of batches)))
