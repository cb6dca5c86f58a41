-- What is known of a range stays where the bytes elsewhere change; and what stands at a place comes
-- in parts.
use Rattle.std.proofs.Common.{◌≡◌, inl, inr, ⊎_elim, ◌⊎◌, ℕ, ◌+◌, ◌-◌, ◌<◌, ◌≤◌, List, [], ◌∷◌, ◌++◌, length, get_or, drop, min, refl, sym, ◌∙◌, ap, arith, length-append, length-drop, get_or-take, get_or-drop}
use Rattle.std.proofs.lemmas.List.{get_or-append_right, get_or_append_left, length-take}
use Rattle.std.proofs.lemmas.Grind.{same_number_lists}
use Rattle.std.proofs.lemmas.Bool.{cases_lt}
use Rattle.mt_base.specs.Ranges.{u16_at, part, Has, Torn, Wrote, Same, Apart}

pub torn_refl : (at n : ℕ) (c : List ℕ) → Torn at n c c
torn_refl at n c = record { size = refl; below = λ i lt. refl; above = λ i le. refl }

pub torn_trans : (at n : ℕ) (a b c : List ℕ) → Torn at n a b → Torn at n b c → Torn at n a c
torn_trans at n a b c first second = record {
  size = second.size ∙ first.size;
  below = λ i lt. second.below i lt ∙ first.below i lt;
  above = λ i le. second.above i le ∙ first.above i le;
}

-- a range within another
pub torn_within : (at n a m : ℕ) (old new : List ℕ) → Torn at n old new → a ≤ at → at + n ≤ a + m → Torn a m old new
torn_within at n a m old new t low high = record {
  size = t.size;
  below = λ i lt. t.below i (omega arith);
  above = λ i le. t.above i (omega arith);
}

-- a byte outside of a torn range stays
pub get_torn : (at n p : ℕ) (old new : List ℕ) → Torn at n old new → Apart at n p 1 → get_or new p 0 ≡ get_or old p 0
get_torn at n p old new t (inl before) = t.below p (omega arith)
get_torn at n p old new t (inr after) = t.above p after

-- bytes outside of a torn range stay
pub has_torn : (at n p : ℕ) (bytes old new : List ℕ) → Has old p bytes → Torn at n old new → Apart at n p (length bytes) → Has new p bytes
has_torn at n p bytes old new has t apart = record {
  within = let size = t.size in let inside = has.within in omega arith;
  each = λ i lt. ⊎_elim (λ before. t.below (p + i) (omega arith)) (λ after. t.above (p + i) (omega arith)) apart ∙ has.each i lt;
}

-- Bytes at a place, in two parts.
pub has_append : (c : List ℕ) (p : ℕ) (x y : List ℕ) → Has c p x → Has c (p + length x) y → Has c p (x ++ y)
has_append c p x y in_front behind = record {
  within = let inside = behind.within in omega (arith, length-append x y);
  each = λ i lt. ⊎_elim
      (λ (early : i < length x). in_front.each i early ∙ sym (get_or_append_left x y 0 i early))
      (λ (late : length x ≤ i). ap (λ (k : ℕ). get_or c k 0) (omega arith)
      ∙ behind.each (i - length x) (omega (arith, length-append x y))
      ∙ sym (get_or-append_right x y (length x) i 0 refl late))
      (cases_lt i (length x));
}

pub has_front : (c : List ℕ) (p : ℕ) (x y : List ℕ) → Has c p (x ++ y) → Has c p x
has_front c p x y whole = record {
  within = let inside = whole.within in omega (arith, length-append x y);
  each = λ i lt. whole.each i (omega (arith, length-append x y)) ∙ get_or_append_left x y 0 i lt;
}

pub has_back : (c : List ℕ) (p : ℕ) (x y : List ℕ) → Has c p (x ++ y) → Has c (p + length x) y
has_back c p x y whole = record {
  within = let inside = whole.within in omega (arith, length-append x y);
  each = λ i lt. ap (λ (k : ℕ). get_or c k 0) (omega arith)
      ∙ whole.each (length x + i) (omega (arith, length-append x y))
      ∙ get_or-append_right x y (length x) (length x + i) 0 refl (omega arith)
      ∙ ap (λ (k : ℕ). get_or y k 0) (omega arith);
}

-- one byte
pub has_one : (c : List ℕ) (p b : ℕ) → p < length c → get_or c p 0 ≡ b → Has c p (b ∷ [])
has_one c p b lt is = record {
  within = omega arith;
  each = λ i here. let first : i ≡ 0 = omega arith in
      ap (λ (k : ℕ). get_or c k 0) (omega arith) ∙ is ∙ ap (λ (k : ℕ). get_or (b ∷ []) k 0) (sym first);
}

pub one_of : (c : List ℕ) (p b : ℕ) → Has c p (b ∷ []) → get_or c p 0 ≡ b
one_of c p b has = ap (λ (k : ℕ). get_or c k 0) (omega arith) ∙ has.each 0 (omega arith)

pub wrote_append : (p : ℕ) (x y a b c : List ℕ) → Wrote p x a b → Wrote (p + length x) y b c → Wrote p (x ++ y) a c
wrote_append p x y a b c f g =
    let long = length-append x y in
    let fw = f.has.within in
    let gw = g.has.within in
    let fs = f.rest.size in
    let gs = g.rest.size in
    record {
      has = record {
        within = omega arith;
        each = λ i lt. ⊎_elim
            (λ (front : i < length x). g.rest.below (p + i) (omega arith) ∙ f.has.each i front ∙ sym (get_or_append_left x y 0 i front))
            (λ (back : length x ≤ i). ap (λ (k : ℕ). get_or c k 0) (omega arith) ∙ g.has.each (i - length x) (omega arith) ∙ sym (get_or-append_right x y (length x) i 0 refl back))
            (cases_lt i (length x));
      };
      rest = record {
        size = gs ∙ fs;
        below = λ i lt. g.rest.below i (omega arith) ∙ f.rest.below i lt;
        above = λ i le. g.rest.above i (omega arith) ∙ f.rest.above i (omega arith);
      };
    }

pub same_u16 : (p : ℕ) (old new : List ℕ) → Same p 2 old new → u16_at new p ≡ u16_at old p
same_u16 p old new s =
    let a = s p (omega arith) (omega arith) in
    let b = s (p + 1) (omega arith) (omega arith) in
    omega arith

pub same_within : (p n q m : ℕ) (old new : List ℕ) → Same p n old new → p ≤ q → q + m ≤ p + n → Same q m old new
same_within p n q m old new s a b = λ i le lt. s i (omega arith) (omega arith)

pub same_trans : (p n : ℕ) (a b c : List ℕ) → Same p n a b → Same p n b c → Same p n a c
same_trans p n a b c f g = λ i le lt. g i le lt ∙ f i le lt

pub same_torn : (at n p m : ℕ) (old new : List ℕ) → Torn at n old new → (p + m ≤ at) ⊎ (at + n ≤ p) → Same p m old new
same_torn at n p m old new t (inl before) = λ i le lt. t.below i (omega arith)
same_torn at n p m old new t (inr after) = λ i le lt. t.above i (omega arith)

pub same_part : (at n : ℕ) (old new : List ℕ) → length new ≡ length old → Same at n old new → part new at n ≡ part old at n
same_part at n old new len s =
    let a = length-take n (drop at new) in
    let b = length-take n (drop at old) in
    let c = length-drop at new in
    let d = length-drop at old in
    let e : length (drop at new) ≡ length (drop at old) = omega arith in
    same_number_lists (part new at n) (part old at n) (a ∙ ap (min n) e ∙ sym b)
    (λ k lt.
    let small : k < n = omega (arith, a) in
    get_or-take n (drop at new) k 0 small ∙ get_or-drop at new k 0 ∙ s (at + k) (omega arith) (omega arith)
    ∙ sym (get_or-drop at old k 0) ∙ sym (get_or-take n (drop at old) k 0 small))

-- bytes that stand in a page are its part
pub part_has : (page bytes : List ℕ) (at n : ℕ) → Has page at bytes → n ≡ length bytes → part page at n ≡ bytes
part_has page bytes at n h is =
    let a = length-take n (drop at page) in
    let c = length-drop at page in
    let w = h.within in
    let len : length (part page at n) ≡ length bytes = omega arith in
    same_number_lists (part page at n) bytes len
    (λ k lt. get_or-take n (drop at page) k 0 (omega arith) ∙ get_or-drop at page k 0 ∙ h.each k (omega arith))

pub part_shifted : (p q n : ℕ) (old new : List ℕ) → p + n ≤ length old → q + n ≤ length new → ((k : ℕ) → k < n → get_or new (q + k) 0 ≡ get_or old (p + k) 0) → part new q n ≡ part old p n
part_shifted p q n old new po qn s =
    let a = length-take n (drop q new) in
    let b = length-take n (drop p old) in
    let c = length-drop q new in
    let d = length-drop p old in
    same_number_lists (part new q n) (part old p n) (omega arith)
    (λ k lt.
    let small : k < n = omega (arith, a) in
    get_or-take n (drop q new) k 0 small ∙ get_or-drop q new k 0 ∙ s k small
    ∙ sym (get_or-drop p old k 0) ∙ sym (get_or-take n (drop p old) k 0 small))

pub part_length : (page : List ℕ) (at n : ℕ) → at + n ≤ length page → (length (part page at n) ≡ n) × ((k : ℕ) → k < n → get_or (part page at n) k 0 ≡ get_or page (at + k) 0)
part_length page at n le =
    let a = length-take n (drop at page) in
    let c = length-drop at page in
    (omega arith, λ k lt. get_or-take n (drop at page) k 0 lt ∙ get_or-drop at page k 0)
