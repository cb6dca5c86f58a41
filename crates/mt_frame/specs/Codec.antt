-- Reading from the front of bytes: what a reader gives is the value and the bytes after it, or nothing.
use Rattle.std.specs.Prelude.{◌≡◌, ℕ, List, [], ◌∷◌, length, take, drop, Option, Some, None, Result, Ok, Err, Bool, nat_lt, if◌then◌else◌}
use Rattle.std.specs.Int.{Width, byte_len, from_be_bytes}
use Rattle.mt_frame.specs.declared.fields.ReadError.{ReadError}
use Rattle.mt_frame.specs.declared.fields.ReadError.TheVariants as errors

abbrev pub Reader : Type 0 → Type 0
Reader A = List ℕ → Option (A × List ℕ)

infixl 10 ◌>>=◌
abbrev pub ◌>>=◌ : {A B : Type 0} → Option A → (A → Option B) → Option B
(Some x) >>= f = f x
None >>= f = None

-- what an error says of the reader's answer: want of memory says nothing
abbrev pub Fails : {Y : Type 0} → ReadError → Option Y → Type 0
Fails errors.Memory read = Unit {0}
Fails errors.Wrong read = read ≡ None

-- a function's result, seen by this view, is what the reader gives
abbrev pub Gives : {X Y : Type 0} → (X → Y) → Result X ReadError → Option Y → Type 0
Gives view (Ok x) read = read ≡ Some (view x)
Gives view (Err e) read = Fails e read

-- a number of this width, the highest byte first
abbrev pub number_at : Width → Reader ℕ
number_at w bytes = if nat_lt (length bytes) (byte_len w) then None else Some
    (from_be_bytes w (take (byte_len w) bytes), drop (byte_len w) bytes)

-- a number from low to high
unfoldable pub within_at : Width → ℕ → ℕ → Reader ℕ
within_at w low high bytes =
    number_at w bytes >>= λ n. if nat_lt n.0 low then None else if nat_lt high n.0 then None else Some n

-- so many bytes
unfoldable pub part_at : ℕ → Reader (List ℕ)
part_at n bytes = if nat_lt (length bytes) n then None else Some (take n bytes, drop n bytes)

-- bytes after their number, which is from low to high
unfoldable pub counted_at : Width → ℕ → ℕ → Reader (List ℕ)
counted_at w low high bytes = within_at w low high bytes >>= λ n. part_at n.0 n.1

-- a byte from low to high
unfoldable pub byte_at : ℕ → ℕ → Reader ℕ
byte_at low high [] = None
byte_at low high (b ∷ rest) = if nat_lt b low then None else if nat_lt high b then None else Some (b, rest)

-- bytes after their number in one byte, which is from low to high
unfoldable pub short_at : ℕ → ℕ → Reader (List ℕ)
short_at low high bytes = byte_at low high bytes >>= λ n. part_at n.0 n.1

-- one value, and then another, whose reader may depend on the first
abbrev pub then_at : {A B : Type 0} → Reader A → (A → Reader B) → Reader (A × B)
then_at first second bytes = first bytes >>= λ a. second a.0 a.1 >>= λ b. Some ((a.0, b.0), b.1)

-- the same value under another form
abbrev pub map_at : {A B : Type 0} → (A → B) → Reader A → Reader B
map_at f read bytes = read bytes >>= λ x. Some (f x.0, x.1)

-- only what passes a test
abbrev pub where_at : {A : Type 0} → (A → Bool) → Reader A → Reader A
where_at test read bytes = read bytes >>= λ x. if test x.0 then Some x else None
