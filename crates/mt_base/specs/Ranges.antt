-- Bytes at a place of a page or a device. All of it goes by single bytes, since facts on ranges then
-- come from facts on indexes.
use Rattle.std.specs.Prelude.{◌≡◌, ◌⊎◌, ℕ, ℤ, ◌+◌, ◌*◌, ◌<◌, ◌≤◌, List, length, take, drop}
use Rattle.std.specs.Int.{w64, cast_signed}
use Rattle.std.proofs.Math.ListN.{get_or}
use Rattle.byteorder.specs.Endian.{big_number}

-- the content holds these bytes from this place on
pub record Has (content : List ℕ) (at : ℕ) (bytes : List ℕ) : Type 0 where
  pub within : at + length bytes ≤ length content
  pub each : (i : ℕ) → i < length bytes → get_or content (at + i) 0 ≡ get_or bytes i 0

-- the n bytes from `at` on may have become any bytes, and each other one stays
pub record Torn (at n : ℕ) (old new : List ℕ) : Type 0 where
  pub size : length new ≡ length old
  pub below : (i : ℕ) → i < at → get_or new i 0 ≡ get_or old i 0
  pub above : (i : ℕ) → at + n ≤ i → get_or new i 0 ≡ get_or old i 0

-- these bytes stand there now, and each other one stays
pub record Wrote (at : ℕ) (bytes old new : List ℕ) : Type 0 where
  pub has : Has new at bytes
  pub rest : Torn at (length bytes) old new

-- the n bytes from `at` on and the m bytes from p on do not overlap
abbrev pub Apart : ℕ → ℕ → ℕ → ℕ → Type 0
Apart at n p m = (p + m ≤ at) ⊎ (at + n ≤ p)

-- the n bytes from `at` on are the same in both
abbrev pub Same : ℕ → ℕ → List ℕ → List ℕ → Type 0
Same at n old new = (i : ℕ) → at ≤ i → i < at + n → get_or new i 0 ≡ get_or old i 0

-- the n bytes from a place on
abbrev pub part : List ℕ → ℕ → ℕ → List ℕ
part content at n = take n (drop at content)

-- the number in the two bytes at a place, the higher one first
abbrev pub u16_at : List ℕ → ℕ → ℕ
u16_at content at = get_or content at 0 * 256 + get_or content (at + 1) 0

-- the number in the eight bytes at a place, the highest one first, as two's complement
unfoldable pub i64_at : List ℕ → ℕ → ℤ
i64_at content at = cast_signed w64 (big_number 8 (part content at 8))
