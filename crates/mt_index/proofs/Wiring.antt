-- The directory of a split, in bytes.
use Rattle.std.proofs.Common.{◌≡◌, ◌≢◌, ℕ, suc, ◌+◌, ◌*◌, ◌<◌, ◌≤◌, ◌==◌, ◌&&◌, ◌^◌, ◌%◌, ◌⊎◌, inl, inr, ⊎_elim, cond, List, [], ◌∷◌, length, get_or, refl, ap, ap₂, sym, ◌∙◌, subst, arith}
use Rattle.std.proofs.lemmas.Nat.{one_shl, pow_below}
use Rattle.std.proofs.lemmas.Bool.{cases_lt, cases_eq}
use Rattle.mt_base.specs.Ranges.{u16_at, part, Torn, Wrote}
use Rattle.mt_base.proofs.Places.{part_length}
use Rattle.mt_bucket.specs.Hash.{high}
use Rattle.mt_index.specs.Pages.{depth_in, pointer_at, Doubled}

-- two bytes that are the same
pub same_pointer : (c d : List ℕ) (p q : ℕ) → get_or d q 0 ≡ get_or c p 0 → get_or d (q + 1) 0 ≡ get_or c (p + 1) 0 → u16_at d q ≡ u16_at c p
same_pointer c d p q a b = ap₂ (λ (x y : ℕ). x * 256 + y) a b

pub twice_pow : (g : ℕ) → 2 ^ suc g ≡ 2 ^ g + 2 ^ g
twice_pow g = omega arith

pub doubled : (c d f : List ℕ) (n bits : ℕ) → length c ≡ 4096 → bits ≡ depth_in c → bits < 9 → n ≡ 2 * 2 ^ bits → Wrote (8 + n) (part c 8 n) c d → Wrote 0 ((bits + 1) ∷ []) d f → Doubled c f
doubled c d f n bits size is room long wrote last = record {
  size = last.rest.size ∙ wrote.rest.size;
  depth = deep;
  below = λ i lt. same_pointer c f (8 + 2 * i) (8 + 2 * i) (low (8 + 2 * i) (omega arith) (omega (arith, lt, count))) (low (8 + 2 * i + 1) (omega arith) (omega (arith, lt, count)));
  above = λ i lt. same_pointer c f (8 + 2 * i) (8 + 2 * (2 ^ depth_in c + i))
      (ap (λ (k : ℕ). get_or f k 0) (omega (arith, count)) ∙ far (2 * i) (omega (arith, lt, count)) ∙ ap (λ (k : ℕ). get_or c k 0) (omega arith))
      (ap (λ (k : ℕ). get_or f k 0) (omega (arith, count)) ∙ far (2 * i + 1) (omega (arith, lt, count)) ∙ ap (λ (k : ℕ). get_or c k 0) (omega arith));
  formed = λ w. record {
    size = last.rest.size ∙ wrote.rest.size ∙ w.size;
    shallow = omega (arith, first, room);
    zeros = λ i some lt. low i some (omega arith) ∙ w.zeros i some lt;
    rest = λ i le. let long_i : 8 + 2 * (2 ^ depth_in c + 2 ^ depth_in c) ≤ i = subst (λ (x : ℕ). 8 + 2 * x ≤ i) (ap (λ (x : ℕ). 2 ^ x) deep ∙ twice_pow (depth_in c)) le in
        last.rest.above i (omega (arith, long_i)) ∙ wrote.rest.above i (omega (arith, long_i, count, part_is)) ∙ w.rest i (omega (arith, long_i));
  };
}
  where
    count : n ≡ 2 * 2 ^ depth_in c
    count = long ∙ ap (λ (x : ℕ). 2 * 2 ^ x) is

    small : 2 ^ bits < 2 ^ 9
    small = pow_below bits 9 room

    fits : 8 + n ≤ 4096
    fits = omega (arith, long, small)

    part_is : length (part c 8 n) ≡ n
    part_is = (part_length c 8 n (omega (arith, size, fits))).0

    first : get_or f 0 0 ≡ bits + 1
    first = last.has.each 0 (omega arith)

    deep : depth_in f ≡ suc (depth_in c)
    deep = omega (arith, first, is, room)

    low : (k : ℕ) → 1 ≤ k → k < 8 + n → get_or f k 0 ≡ get_or c k 0
    low k some lt = last.rest.above k (omega arith) ∙ wrote.rest.below k lt

    far : (k : ℕ) → k < n → get_or f (8 + n + k) 0 ≡ get_or c (8 + k) 0
    far k lt = last.rest.above (8 + n + k) (omega arith) ∙ wrote.has.each k (omega (arith, lt, part_is)) ∙ (part_length c 8 n (omega (arith, size, fits))).1 k lt

-- ---- pointers that change

-- those below i are as they are to be
pub record SoFar (from to bit : ℕ) (old now : List ℕ) (i : ℕ) : Type 0 where
  pub rest : Torn 8 (2 * 2 ^ depth_in old) old now
  pub done : (k : ℕ) → k < i → pointer_at now k ≡ cond (pointer_at old k == from && high bit k) to (pointer_at old k)
  pub left : (k : ℕ) → i ≤ k → pointer_at now k ≡ pointer_at old k

pub none_so_far : (from to bit : ℕ) (old : List ℕ) → SoFar from to bit old old 0
none_so_far from to bit old = record {
  rest = record { size = refl; below = λ i lt. refl; above = λ i le. refl };
  done = λ k lt. absurd (omega arith);
  left = λ k le. refl;
}

-- another pointer stays
other_pointer : (c d : List ℕ) (i k : ℕ) → Torn (8 + 2 * i) 2 c d → k ≢ i → pointer_at d k ≡ pointer_at c k
other_pointer c d i k t off = ⊎_elim
    (λ (less : k < i). same_pointer c d (8 + 2 * k) (8 + 2 * k) (t.below (8 + 2 * k) (omega (arith, less))) (t.below (8 + 2 * k + 1) (omega (arith, less))))
    (λ (more : i ≤ k). same_pointer c d (8 + 2 * k) (8 + 2 * k) (t.above (8 + 2 * k) (omega (arith, more, off))) (t.above (8 + 2 * k + 1) (omega (arith, more, off))))
    (cases_lt k i)

pub more_so_far : (from to bit : ℕ) (old now new : List ℕ) (i : ℕ) → SoFar from to bit old now i → i < 2 ^ depth_in old
    → pointer_at new i ≡ cond (pointer_at now i == from && high bit i) to (pointer_at now i) → Torn (8 + 2 * i) 2 now new → SoFar from to bit old new (i + 1)
more_so_far from to bit old now new i so lt here t = record {
  rest = record {
    size = t.size ∙ so.rest.size;
    below = λ k less. t.below k (omega arith) ∙ so.rest.below k less;
    above = λ k le. t.above k (omega arith) ∙ so.rest.above k le;
  };
  done = λ k less. ⊎_elim
      (λ (same : k ≡ i). ap (pointer_at new) same ∙ here ∙ ap (λ (p : ℕ). cond (p == from && high bit i) to p) (so.left i (omega arith)) ∙ ap (λ (j : ℕ). cond (pointer_at old j == from && high bit j) to (pointer_at old j)) (sym same))
      (λ (off : k ≢ i). other_pointer now new i k t off ∙ so.done k (omega arith))
      (cases_eq k i);
  left = λ k le. other_pointer now new i k t (λ e. absurd (omega arith)) ∙ so.left k (omega arith);
}

-- how many pointers there are
pub few_pointers : (g : ℕ) → g ≤ 9 → (1 * 2 ^ g % 65536 ≡ 2 ^ g) × (2 ^ g ≤ 512)
few_pointers g le = (one_shl g 16 (omega arith), go (cases_eq g 9))
  where
    go : (g ≡ 9) ⊎ (g ≡ 9 → ⊥) → 2 ^ g ≤ 512
    go (inl is) = let e : 2 ^ g ≡ 2 ^ 9 = ap (λ (x : ℕ). 2 ^ x) is in omega (arith, e)
    go (inr off) = let b = pow_below g 9 (omega arith) in omega (arith, b)
