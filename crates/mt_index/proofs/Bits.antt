-- The low bits of a hash, and a directory of pointers.
use Rattle.std.proofs.Common.{◌≡◌, ℕ, zero, suc, ◌+◌, ◌-◌, ◌*◌, ◌/◌, ◌^◌, ◌%◌, ◌<◌, List, ◌++◌, length, get_or, refl, ap, sym, ◌∙◌, arith, ◌==◌}
use Rattle.std.proofs.lemmas.Nat.{pow_pos, mod-pow-add, field_of, mod_low, mod_below}
use Rattle.std.proofs.lemmas.List.{get_or-append_right, get_or_append_left}
use Rattle.std.specs.Int.{bit_at}
use Rattle.mt_bucket.specs.Hash.{high}
use Rattle.mt_index.specs.Maps.{Agree}

pub mod_suc : (h g : ℕ) → h % 2 ^ suc g ≡ bit_at h g * 2 ^ g + h % 2 ^ g
mod_suc h g = ap (λ (k : ℕ). h % 2 ^ k) (omega arith) ∙ mod-pow-add h 1 g

-- a bit below g is the same in the low g bits
pub bit_low : (h g l : ℕ) → l < g → bit_at (h % 2 ^ g) l ≡ bit_at h l
bit_low h g l lt =
    ap (λ (k : ℕ). h % 2 ^ k / 2 ^ l % 2) is
    ∙ ap (λ (x : ℕ). x % 2) (field_of h (g - l - 1 + 1) l ∙ mod-pow-add (h / 2 ^ l) (g - l - 1) 1)
    ∙ mod_low (h / 2 ^ l / 2 ^ 1 % 2 ^ (g - l - 1)) 1 (h / 2 ^ l % 2 ^ 1) (mod_below (h / 2 ^ l) 2 (omega arith))
  where
    is : g ≡ g - l - 1 + 1 + l
    is = omega arith

pub high_low : (h g l : ℕ) → l < g → high l (h % 2 ^ g) ≡ high l h
high_low h g l lt = ap (λ (x : ℕ). x == 1) (bit_low h g l lt)

-- doubling changes no hash's pointer
pub doubled : (ps : List ℕ) (g h : ℕ) → length ps ≡ 2 ^ g → get_or (ps ++ ps) (h % 2 ^ suc g) 0 ≡ get_or ps (h % 2 ^ g) 0
doubled ps g h size = go (bit_at h g) (mod_below (h / 2 ^ g) 2 (omega arith)) (mod_suc h g)
  where
    below : h % 2 ^ g < 2 ^ g
    below = mod_below h (2 ^ g) (pow_pos g)

    go : (b : ℕ) → b < 2 → h % 2 ^ suc g ≡ b * 2 ^ g + h % 2 ^ g → get_or (ps ++ ps) (h % 2 ^ suc g) 0 ≡ get_or ps (h % 2 ^ g) 0
    go zero lt is = ap (λ (k : ℕ). get_or (ps ++ ps) k 0) (is ∙ omega arith) ∙ get_or_append_left ps ps 0 (h % 2 ^ g) (omega (arith, below, size))
    go (suc zero) lt is = ap (λ (k : ℕ). get_or (ps ++ ps) k 0) (is ∙ omega arith)
        ∙ get_or-append_right ps ps (2 ^ g) (2 ^ g + h % 2 ^ g) 0 size (omega arith) ∙ ap (λ (k : ℕ). get_or ps k 0) (omega arith)
    go (suc (suc b)) lt is = absurd (omega (arith, lt))

-- the same low l bits, in numbers
bit_below : (h l : ℕ) → bit_at h l < 2
bit_below h l = mod_below (h / 2 ^ l) 2 (omega arith)

same_bit : (a b : ℕ) → a < 2 → b < 2 → (a == 1) ≡ (b == 1) → a ≡ b
same_bit zero zero p q e = refl
same_bit zero (suc zero) p q e = absurd cc
same_bit (suc zero) zero p q e = absurd cc
same_bit (suc zero) (suc zero) p q e = refl
same_bit (suc (suc a)) b p q e = absurd (omega (arith, p))
same_bit a (suc (suc b)) p q e = absurd (omega (arith, q))

pub mod_from_agree : (l h k : ℕ) → Agree l h k → h % 2 ^ l ≡ k % 2 ^ l
mod_from_agree zero h k a = omega arith
mod_from_agree (suc l) h k a =
    mod_suc h l ∙ ap (λ (x : ℕ). x * 2 ^ l + h % 2 ^ l) (same_bit (bit_at h l) (bit_at k l) (bit_below h l) (bit_below k l) a.1)
    ∙ ap (λ (x : ℕ). bit_at k l * 2 ^ l + x) (mod_from_agree l h k a.0) ∙ sym (mod_suc k l)

low_of : (h l : ℕ) → h % 2 ^ suc l % 2 ^ l ≡ h % 2 ^ l
low_of h l = ap (λ (x : ℕ). x % 2 ^ l) (mod_suc h l) ∙ mod_low (bit_at h l) l (h % 2 ^ l) (mod_below h (2 ^ l) (pow_pos l))

pub agree_from_mod : (l h k : ℕ) → h % 2 ^ l ≡ k % 2 ^ l → Agree l h k
agree_from_mod zero h k e = tt
agree_from_mod (suc l) h k e = (
  agree_from_mod l h k (sym (low_of h l) ∙ ap (λ (x : ℕ). x % 2 ^ l) e ∙ low_of k l),
  sym (high_low h (suc l) l (omega arith)) ∙ ap (high l) e ∙ high_low k (suc l) l (omega arith),
)
