-- Readers of records and batches, in the order in which the code reads.
use Rattle.std.proofs.Math.ListN.{get_or}
use Rattle.std.specs.Prelude.{ℕ, ℤ, ◌+◌, List, [], ◌∷◌, Option, Some, None, Bool, true, false, not, nat_lt, ◌==◌, ◌&&◌, ◌||◌, if◌then◌else◌}
use Rattle.std.specs.Int.{w16, w32, w64, cast_signed}
use Rattle.mt_frame.specs.declared.slots.TheConstants.{FIRST_LETTERS, LETTERS}
use Rattle.mt_base.specs.declared.format.Format.{Format}
use Rattle.mt_base.specs.declared.format.Format.TheVariants.{One, Two}
use Rattle.mt_base.specs.declared.limits.TheConstants.{MAX_BEGUN, MAX_EPOCH, MAX_KEY_BYTES, MAX_VALUE_BYTES, PAGE_BYTES}
use Rattle.mt_frame.specs.declared.TheConstants.{OPEN_GATE}
use Rattle.mt_frame.specs.declared.records.LoggedOp.{LoggedOp}
use Rattle.mt_frame.specs.declared.records.LoggedOp.TheVariants.{Insert, Update, Delete, Add}
use Rattle.mt_frame.specs.declared.records.Record.{Record}
use Rattle.mt_frame.specs.declared.records.Record.TheVariants.{Page, OpEnd, OpDropped, Commit, AbortEnd}
use Rattle.mt_frame.specs.declared.slots.MasterSlot.{MasterSlot}
use Rattle.mt_frame.specs.Grammar.{last_of}
use Rattle.mt_frame.specs.Codec.{Reader, number_at, within_at, part_at, counted_at, byte_at, short_at, then_at, map_at, where_at}

-- ---- numbers

abbrev pub MAX_NUMBER : ℕ
MAX_NUMBER = 18446744073709551615

-- a transaction's number
unfoldable pub txn_at : Reader ℕ
txn_at = within_at w64 1 MAX_BEGUN

-- an operation's number
unfoldable pub op_at : Reader ℕ
op_at = within_at w64 1 MAX_NUMBER

-- both
unfoldable pub name_at : Reader (ℕ × ℕ)
name_at = then_at txn_at (λ _. op_at)

-- the 64 bits of a step
abbrev pub is_step_number : ℕ → Bool
is_step_number n = (nat_lt 0 n && nat_lt n 1000000000001) || nat_lt 18446743073709551615 n

unfoldable pub step_at : Reader ℤ
step_at = map_at (cast_signed w64) (where_at is_step_number (number_at w64))

-- ---- operations

abbrev pub InsertParts : Type 0
InsertParts = ℕ × (List ℕ × List ℕ)

abbrev pub insert_of : InsertParts → LoggedOp
insert_of p = Insert p.0 p.1.0 p.1.1

abbrev pub UpdateParts : Type 0
UpdateParts = ℕ × (List ℕ × (List ℕ × List ℕ))

abbrev pub update_of : UpdateParts → LoggedOp
update_of p = Update p.0 p.1.0 p.1.1.0 p.1.1.1

abbrev pub delete_of : InsertParts → LoggedOp
delete_of p = Delete p.0 p.1.0 p.1.1

abbrev pub add_of : ℕ × ℤ → LoggedOp
add_of p = Add p.0 p.1

unfoldable pub value_at : Reader (List ℕ)
value_at = counted_at w16 0 MAX_VALUE_BYTES

-- relation, key and a value
unfoldable pub keyed_at : Reader InsertParts
keyed_at = then_at (byte_at 0 63) (λ _. then_at (short_at 1 MAX_KEY_BYTES) (λ _. value_at))

unfoldable pub update_at : Reader UpdateParts
update_at = then_at (byte_at 0 63) (λ _. then_at (short_at 1 MAX_KEY_BYTES) (λ _. then_at value_at (λ _. value_at)))

unfoldable pub add_at : Reader (ℕ × ℤ)
add_at = then_at (byte_at 0 127) (λ _. step_at)

unfoldable pub operation_at : Reader LoggedOp
operation_at [] = None
operation_at (tag ∷ bytes) =
    if tag == 1 then map_at insert_of keyed_at bytes
    else if tag == 2 then map_at update_of update_at bytes
    else if tag == 3 then map_at delete_of keyed_at bytes
    else if tag == 4 then map_at add_of add_at bytes
    else None

-- ---- page records

-- transaction, operation, page, whether an image follows, start, length
abbrev pub Head : Type 0
Head = ℕ × (ℕ × (ℕ × (Bool × (ℕ × ℕ))))

unfoldable pub flag_at : Reader Bool
flag_at = map_at (λ b. b == 1) (byte_at 0 1)

-- of transaction 0 the image alone, of any other a range within the page
abbrev pub is_head : Head → Bool
is_head h =
    if h.0 == 0 then (h.1.0 == 0) && (h.1.1.1.0 && ((h.1.1.1.1.0 == 0) && (h.1.1.1.1.1 == 0)))
    else nat_lt 0 h.1.0 && (nat_lt 0 h.1.1.1.1.1 && nat_lt (h.1.1.1.1.0 + h.1.1.1.1.1) 4097)

unfoldable pub head_at : Reader Head
head_at = where_at is_head (then_at (within_at w64 0 MAX_BEGUN)
    (λ _. then_at (within_at w64 0 MAX_NUMBER) (λ _. then_at (within_at w16 0 3999)
    (λ _. then_at flag_at (λ _. then_at (within_at w16 0 4096) (λ _. within_at w16 0 4096))))))

unfoldable pub image_at : Bool → Reader (Option (List ℕ))
image_at false bytes = Some (None, bytes)
image_at true bytes = map_at Some (part_at PAGE_BYTES) bytes

-- the first and the last byte differ
abbrev pub is_shortest : List ℕ → List ℕ → Bool
is_shortest old new = not (get_or old 0 0 == get_or new 0 0) && not (last_of old == last_of new)

-- old and new bytes of a range of this length
unfoldable pub range_at : ℕ → Reader (List ℕ × List ℕ)
range_at n = where_at (λ p. (n == 0) || is_shortest p.0 p.1) (then_at (part_at n) (λ _. part_at n))

abbrev pub PageParts : Type 0
PageParts = Head × (Option (List ℕ) × (List ℕ × List ℕ))

abbrev pub page_of : PageParts → Record
page_of p = Page p.0.0 p.0.1.0 p.0.1.1.0 p.1.0 p.0.1.1.1.1.0 p.1.1.0 p.1.1.1

unfoldable pub page_at : Reader PageParts
page_at = then_at head_at (λ h. then_at (image_at h.1.1.1.0) (λ _. range_at h.1.1.1.1.1))

-- ---- records

abbrev pub EndParts : Type 0
EndParts = (ℕ × ℕ) × (ℕ × LoggedOp)

abbrev pub end_of : EndParts → Record
end_of p = OpEnd p.0.0 p.0.1 p.1.0 p.1.1

unfoldable pub end_at : Reader EndParts
end_at = then_at name_at (λ _. then_at (within_at w64 0 MAX_NUMBER) (λ _. operation_at))

abbrev pub dropped_of : ℕ × ℕ → Record
dropped_of p = OpDropped p.0 p.1

unfoldable pub record_at : Reader Record
record_at [] = None
record_at (kind ∷ bytes) =
    if kind == 1 then map_at page_of page_at bytes
    else if kind == 2 then map_at end_of end_at bytes
    else if kind == 3 then map_at dropped_of name_at bytes
    else if kind == 4 then map_at Commit txn_at bytes
    else if kind == 5 then map_at AbortEnd txn_at bytes
    else None

-- ---- batches

-- an open gate, and a body after its length
unfoldable pub framed_at : Reader (List ℕ)
framed_at = map_at (λ p. p.1) (then_at (byte_at OPEN_GATE OPEN_GATE) (λ _. counted_at w32 0 4294967295))

-- ---- master slots

-- the number that the letters of a format are
abbrev pub letters_of : Format → ℕ
letters_of One = FIRST_LETTERS
letters_of Two = LETTERS

-- the format of these letters
unfoldable pub format_at : Reader Format
format_at = map_at (λ n. if n == FIRST_LETTERS then One else Two) (within_at w32 FIRST_LETTERS LETTERS)

-- gate, format, epoch, area, pages, MiB
abbrev pub SlotParts : Type 0
SlotParts = ℕ × (Format × (ℕ × (ℕ × (ℕ × ℕ))))

abbrev pub slot_of : SlotParts → MasterSlot
slot_of p = record {
  format = p.1.0;
  epoch = p.1.1.0;
  area = p.1.1.1.0;
  pages = p.1.1.1.1.0;
  mib = p.1.1.1.1.1;
}

unfoldable pub slot_at : Reader MasterSlot
slot_at = map_at slot_of (then_at (byte_at OPEN_GATE OPEN_GATE)
    (λ _. then_at format_at (λ _. then_at (within_at w64 1 MAX_EPOCH)
    (λ _. then_at (byte_at 0 1) (λ _. then_at (within_at w16 16 4000) (λ _. byte_at 4 64))))))
