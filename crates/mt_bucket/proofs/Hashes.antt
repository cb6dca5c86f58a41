-- The hash, a byte at a time.
use Rattle.std.proofs.Common.{◌≡◌, ℕ, zero, suc, ◌+◌, ◌*◌, ◌<◌, ◌≤◌, ◌^◌, ◌%◌, List, [], ◌∷◌, length, get_or, drop, drop-cons, refl, ap, ◌∙◌, arith}
use Rattle.std.specs.Int.RustNames.{bit_xor}
use Rattle.mt_bucket.specs.Hash.{fnv}

suc_is : (i : ℕ) → suc i ≡ i + 1
suc_is i = omega arith

pub drop_past : (key : List ℕ) (i : ℕ) → length key ≤ i → drop i key ≡ []
drop_past [] i le = nothing i
  where
    nothing : (i : ℕ) → drop {A = ℕ} i [] ≡ []
    nothing zero = refl
    nothing (suc i) = refl
drop_past (x ∷ key) zero le = absurd (omega (arith, le))
drop_past (x ∷ key) (suc i) le = drop_past key i (omega (arith, le))

pub fnv_more : (key : List ℕ) (h i : ℕ) → i < length key → fnv h (drop i key) ≡ fnv (bit_xor h (get_or key i 0) * 0x100000001b3 % 2 ^ 64) (drop (i + 1) key)
fnv_more key h i lt = ap (fnv h) (drop-cons key i 0 lt) ∙ ap (λ (k : ℕ). fnv (bit_xor h (get_or key i 0) * 0x100000001b3 % 2 ^ 64) (drop k key)) (suc_is i)
