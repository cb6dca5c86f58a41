-- Pointers in bytes.
use Rattle.std.proofs.Common.{◌≡◌, ℕ, zero, suc, ◌+◌, ◌*◌, ◌<◌, ◌≤◌, ◌^◌, ◌%◌, List, length, get_or, refl, ap, sym, ◌∙◌, subst, arith}
use Rattle.std.proofs.lemmas.Nat.{pow_pos, mod_below, one_shl, pow_below}
use Rattle.mt_base.specs.Ranges.{u16_at}
use Rattle.mt_index.specs.Index.{named}
use Rattle.mt_space.specs.Changes.{PageBytes}
use Rattle.mt_index.specs.Pages.{depth_in, pointer_at, pointers_from, state_of}

pub get_pointer : (c : List ℕ) (at n i : ℕ) → i < n → get_or (pointers_from c at n) i 0 ≡ u16_at c (at + 2 * i)
get_pointer c at zero i lt = absurd (omega arith)
get_pointer c at (suc n) zero lt = ap (λ (k : ℕ). u16_at c k) (omega arith)
get_pointer c at (suc n) (suc i) lt = get_pointer c (at + 2) n i (omega arith) ∙ ap (λ (k : ℕ). u16_at c k) (omega arith)

pub pointers_length : (c : List ℕ) (at n : ℕ) → length (pointers_from c at n) ≡ n
pointers_length c at zero = refl
pointers_length c at (suc n) = omega (arith, pointers_length c (at + 2) n)

-- the place of a pointer lies in the page
pub place_fits : (h g : ℕ) → g ≤ 9 → 8 + 2 * (h % (1 * 2 ^ g % 2 ^ 64)) + 2 ≤ 4096
place_fits h g le = let e = one_shl g 64 (omega arith) in let b = pow_below g 10 (omega arith) in
    subst (λ (x : ℕ). 8 + 2 * (h % x) + 2 ≤ 4096) (sym e) (below (2 ^ g) b (pow_pos g))
  where
    below : (x : ℕ) → x < 2 ^ 10 → 0 < x → 8 + 2 * (h % x) + 2 ≤ 4096
    below x lt pos = omega (arith, mod_below h x pos, lt)

pub place_is : (h g n : ℕ) → g ≡ n → n ≤ 9 → 8 + 2 * (h % (1 * 2 ^ g % 2 ^ 64)) ≡ 8 + 2 * (h % 2 ^ n)
place_is h g n is le = ap (λ (x : ℕ). 8 + 2 * (h % x)) (one_shl g 64 (omega arith) ∙ ap (λ (x : ℕ). 2 ^ x) is)

-- the hash's pointer
pub named_is : (pages : PageBytes) (h : ℕ) → named (state_of pages) h ≡ pointer_at (pages 1) (h % 2 ^ depth_in (pages 1))
named_is pages h = get_pointer (pages 1) 8 (2 ^ depth_in (pages 1)) (h % 2 ^ depth_in (pages 1)) (mod_below h (2 ^ depth_in (pages 1)) (pow_pos (depth_in (pages 1))))

-- a pointer's number below a shifted one
pub in_directory : (i d n : ℕ) → d ≡ n → n ≤ 9 → i < 1 * 2 ^ d % 2 ^ 64 → i < 2 ^ n
in_directory i d n is le lt = subst (λ (x : ℕ). i < x) (one_shl d 64 (omega (arith, is, le)) ∙ ap (λ (x : ℕ). 2 ^ x) is) lt
