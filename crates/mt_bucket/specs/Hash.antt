-- The hash of a key.
use Rattle.std.specs.Prelude.{ℕ, ◌==◌, ◌^◌, ◌*◌, ◌%◌, Bool, List, [], ◌∷◌}
use Rattle.std.specs.Int.{bit_at}
use Rattle.std.specs.Int.RustNames.{bit_xor}

-- FNV-1a of 64 bits, from some bytes on
abbrev pub fnv : ℕ → List ℕ → ℕ
fnv h [] = h
fnv h (b ∷ bs) = fnv (bit_xor h b * 0x100000001b3 % 2 ^ 64) bs

unfoldable pub hash : List ℕ → ℕ
hash key = fnv 0xcbf29ce484222325 key

-- whether the bit of this place is set in a hash
abbrev pub high : ℕ → ℕ → Bool
high bit h = bit_at h bit == 1
