-- The bytes of a cell.
use Rattle.std.proofs.Common.{◌≡◌, ◌≢◌, ℕ, ◌+◌, ◌-◌, ◌*◌, ◌<◌, ◌≤◌, ◌==◌, ◌&&◌, Bool, true, false, List, length, get_or, take, drop, min, bytes_eq, refl, ap, sym, ◌∙◌, arith, length-drop, length-take, ◌⊎◌, inl, inr}
use Rattle.std.proofs.lemmas.List.{get_or-take, get_or-drop, drop-take, drop-drop, take-take, length-take-le, ext_get_or, take_all}
use Rattle.std.proofs.lemmas.Bool.{eq-eqb, ne_eqb, cases_lt}
use Rattle.std.specs.Cmp.Lexicographic.{bytes_decides}
use Rattle.mt_base.specs.Ranges.{u16_at, Has, Torn, Same}
use Rattle.mt_base.proofs.Places.{same_torn, same_part}
use Rattle.mt_bucket.specs.Entries.{is_at}
use Rattle.mt_bucket.specs.Page.{cell, entry_of}

pub long_cell : (c : List ℕ) (at : ℕ) → at + 70 ≤ length c → length (cell c at) ≡ 70
long_cell c at le = length-take-le 70 (drop at c) (omega (arith, le, length-drop at c))

pub get_cell : (c : List ℕ) (at i : ℕ) → i < 70 → get_or (cell c at) i 0 ≡ get_or c (at + i) 0
get_cell c at i lt = get_or-take 70 (drop at c) i 0 lt ∙ get_or-drop at c i 0

pub number_cell : (c : List ℕ) (at i : ℕ) → i + 1 < 70 → u16_at (cell c at) i ≡ u16_at c (at + i)
number_cell c at i lt =
    ap (λ (x : ℕ). x * 256 + get_or (cell c at) (i + 1) 0) (get_cell c at i (omega arith))
    ∙ ap (λ (x : ℕ). get_or c (at + i) 0 * 256 + x) (get_cell c at (i + 1) lt ∙ ap (λ (k : ℕ). get_or c k 0) (omega arith))

-- two cells of the same bytes
pub cell_moved : (c d : List ℕ) (p q : ℕ) → p + 70 ≤ length c → q + 70 ≤ length d → ((i : ℕ) → i < 70 → get_or d (q + i) 0 ≡ get_or c (p + i) 0) → cell d q ≡ cell c p
cell_moved c d p q lc ld e = ext_get_or 0 (cell d q) (cell c p) (long_cell d q ld ∙ sym (long_cell c p lc))
    (λ i lt. let s : i < 70 = omega (arith, lt, long_cell d q ld) in get_cell d q i s ∙ e i s ∙ sym (get_cell c p i s))

pub cell_same : (c d : List ℕ) (at : ℕ) → at + 70 ≤ length c → length d ≡ length c → Same at 70 c d → cell d at ≡ cell c at
cell_same c d at le size s = cell_moved c d at at le (omega arith) (λ i lt. s (at + i) (omega arith) (omega arith))

-- 70 bytes that were written are a cell
pub cell_has : (c b : List ℕ) (at : ℕ) → length b ≡ 70 → Has c at b → cell c at ≡ b
cell_has c b at lb has =
    let within = has.within in
    ext_get_or 0 (cell c at) b (long_cell c at (omega arith) ∙ sym lb)
    (λ i lt. let s : i < 70 = omega (arith, lt, long_cell c at (omega arith)) in get_cell c at i s ∙ has.each i (omega arith))

-- ---- the key and the relation of a cell

-- the key's bytes lie behind its length
pub key_cell : (c : List ℕ) (at n : ℕ) → n ≤ 68 → take n (drop 2 (cell c at)) ≡ take n (drop (at + 2) c)
key_cell c at n le = ap (take n) (drop-take 2 68 (drop at c) ∙ ap (take 68) (drop-drop 2 at c)) ∙ take-take n 68 (drop (at + 2) c) le

and_false_left : (x y : Bool) → x ≡ false → (x && y) ≡ false
and_false_left false y e = refl
and_false_left true y e = absurd cc

and_false_right : (x y : Bool) → y ≡ false → (x && y) ≡ false
and_false_right false y e = refl
and_false_right true y e = e

and_true_left : (x y : Bool) → x ≡ true → (x && y) ≡ y
and_true_left true y e = refl
and_true_left false y e = absurd cc

pub other_relation : (c k : List ℕ) (at r : ℕ) → get_or c at 0 ≢ r → is_at r k (entry_of (cell c at)) ≡ false
other_relation c k at r no_match =
    and_false_left (get_or (cell c at) 0 0 == r) (bytes_eq (take (get_or (cell c at) 1 0) (drop 2 (cell c at))) k)
    (ne_eqb (get_or (cell c at) 0 0) r (λ e. no_match (ap (λ (i : ℕ). get_or c i 0) (omega arith) ∙ sym (get_cell c at 0 (omega arith)) ∙ e)))

other_text : (x k : List ℕ) → x ≢ k → (t : Bool) → bytes_eq x k ≡ t → t ≡ false
other_text x k apart true e = absurd (apart ((bytes_decides x k).0 e))
other_text x k apart false e = refl

pub other_length : (c k : List ℕ) (at r : ℕ) → length c ≡ 4096 → at + 70 ≤ 4096 → length k ≤ 64 → get_or c (at + 1) 0 ≢ length k → is_at r k (entry_of (cell c at)) ≡ false
other_length c k at r size within short no_match =
    and_false_right (get_or (cell c at) 0 0 == r) (bytes_eq (take (get_or (cell c at) 1 0) (drop 2 (cell c at))) k)
    (other_text (take (get_or (cell c at) 1 0) (drop 2 (cell c at))) k (λ e. apart (ap length e)) (bytes_eq (take (get_or (cell c at) 1 0) (drop 2 (cell c at))) k) refl)
  where
    whole : length (drop 2 (cell c at)) ≡ 68
    whole = omega (arith, length-drop 2 (cell c at), length-take 70 (drop at c), length-drop at c, size, within)

    apart : length (take (get_or (cell c at) 1 0) (drop 2 (cell c at))) ≢ length k
    apart e = go (cases_lt 68 (get_or (cell c at) 1 0))
      where
        go : (68 < get_or (cell c at) 1 0) ⊎ (get_or (cell c at) 1 0 ≤ 68) → ⊥
        go (inl gt) = omega (arith, length-take (get_or (cell c at) 1 0) (drop 2 (cell c at)), whole, gt, e, short)
        go (inr le) = no_match (sym (get_cell c at 1 (omega arith)) ∙ sym (length-take-le (get_or (cell c at) 1 0) (drop 2 (cell c at)) (omega (arith, whole, le))) ∙ e)

pub same_text : (c k : List ℕ) (at r : ℕ) → length k ≤ 64 → get_or c at 0 ≡ r → get_or c (at + 1) 0 ≡ length k
    → is_at r k (entry_of (cell c at)) ≡ bytes_eq (take (length k) (drop (at + 2) c)) k
same_text c k at r short rel len =
    and_true_left (get_or (cell c at) 0 0 == r) (bytes_eq (take (get_or (cell c at) 1 0) (drop 2 (cell c at))) k)
    (eq-eqb (get_or (cell c at) 0 0) r (get_cell c at 0 (omega arith) ∙ ap (λ (i : ℕ). get_or c i 0) (omega arith) ∙ rel))
    ∙ ap (λ (n : ℕ). bytes_eq (take n (drop 2 (cell c at))) k) (get_cell c at 1 (omega arith) ∙ len)
    ∙ ap (λ x. bytes_eq x k) (key_cell c at (length k) (omega (arith, short)))

-- a cell whose key ends in another byte is not one of the key
pub other_last : (c k : List ℕ) (at r : ℕ) → length k ≤ 64 → get_or c at 0 ≡ r → get_or c (at + 1) 0 ≡ length k → 0 < length k
    → get_or c (at + 1 + length k) 0 ≢ get_or k (length k - 1) 0 → is_at r k (entry_of (cell c at)) ≡ false
other_last c k at r short rel len some no_match =
    same_text c k at r short rel len ∙ (other_text (take (length k) (drop (at + 2) c)) k apart (bytes_eq (take (length k) (drop (at + 2) c)) k) refl)
  where
    there : get_or (take (length k) (drop (at + 2) c)) (length k - 1) 0 ≡ get_or c (at + 1 + length k) 0
    there = get_or-take (length k) (drop (at + 2) c) (length k - 1) 0 (omega arith) ∙ get_or-drop (at + 2) c (length k - 1) 0 ∙ ap (λ (i : ℕ). get_or c i 0) (omega arith)

    apart : take (length k) (drop (at + 2) c) ≢ k
    apart e = no_match (sym there ∙ ap (λ (x : List ℕ). get_or x (length k - 1) 0) e)

-- more bytes than there are is all of them
pub key_clamped : (b : List ℕ) (n m : ℕ) → length b ≡ 70 → n ≡ min (get_or b 1 0) m → m ≡ 68 → take n (drop 2 b) ≡ take (get_or b 1 0) (drop 2 b)
key_clamped b n m lb is all = go (cases_lt 68 (get_or b 1 0))
  where
    long : length (drop 2 b) ≡ 68
    long = omega (arith, length-drop 2 b, lb)

    go : (68 < get_or b 1 0) ⊎ (get_or b 1 0 ≤ 68) → take n (drop 2 b) ≡ take (get_or b 1 0) (drop 2 b)
    go (inl gt) = take_all n (drop 2 b) (omega (arith, long, is, all, gt)) ∙ sym (take_all (get_or b 1 0) (drop 2 b) (omega (arith, long, gt)))
    go (inr le) = ap (λ (k : ℕ). take k (drop 2 b)) (omega (arith, is, all, le))

-- the bytes of an entry, as they are written
pub entry_is : (b key : List ℕ) (r page slot : ℕ) → length b ≡ 70 → length key ≤ 64 → get_or b 0 0 ≡ r → get_or b 1 0 ≡ length key → Has b 2 key
    → u16_at b 66 ≡ page → u16_at b 68 ≡ slot → entry_of b ≡ record { relation = r; key = key; name = record { page = page; slot = slot } }
entry_is b key r page slot lb short r_is l_is has p_is s_is = λ j. record {
  relation = r_is j;
  key = text j;
  name = record { page = p_is j; slot = s_is j };
}
  where
    whole : length (take (length key) (drop 2 b)) ≡ length key
    whole = length-take-le (length key) (drop 2 b) (omega (arith, short, length-drop 2 b, lb))

    text : take (get_or b 1 0) (drop 2 b) ≡ key
    text = ap (λ (x : ℕ). take x (drop 2 b)) l_is
        ∙ ext_get_or 0 (take (length key) (drop 2 b)) key whole
        (λ i lt. get_or-take (length key) (drop 2 b) i 0 (omega (arith, lt, whole)) ∙ get_or-drop 2 b i 0 ∙ has.each i (omega (arith, lt, whole)))

both_true : (x y : Bool) → (x && y) ≡ true → y ≡ true
both_true true y e = e
both_true false y e = absurd cc

-- the length of a key that was found
pub key_length : (b k : List ℕ) (r : ℕ) → length b ≡ 70 → length k ≤ 64 → is_at r k (entry_of b) ≡ true → get_or b 1 0 ≡ length k
key_length b k r lb short is = go (cases_lt 68 (get_or b 1 0))
  where
    text : take (get_or b 1 0) (drop 2 b) ≡ k
    text = (bytes_decides (take (get_or b 1 0) (drop 2 b)) k).0 (both_true (get_or b 0 0 == r) (bytes_eq (take (get_or b 1 0) (drop 2 b)) k) is)

    whole : length (drop 2 b) ≡ 68
    whole = omega (arith, length-drop 2 b, lb)

    go : (68 < get_or b 1 0) ⊎ (get_or b 1 0 ≤ 68) → get_or b 1 0 ≡ length k
    go (inl gt) = omega (arith, length-take (get_or b 1 0) (drop 2 b), whole, gt, ap length text, short)
    go (inr le) = sym (length-take-le (get_or b 1 0) (drop 2 b) (omega (arith, whole, le))) ∙ ap length text

-- another name in a cell whose key is not too long
pub cell_renamed : (c d : List ℕ) (at page slot : ℕ) → at + 70 ≤ length c → get_or (cell c at) 1 0 ≤ 64 → Torn (at + 66) 4 c d
    → u16_at d (at + 66) ≡ page → u16_at d (at + 66 + 2) ≡ slot
    → entry_of (cell d at) ≡ record (entry_of (cell c at)) { name = record { page = page; slot = slot } }
cell_renamed c d at page slot le short torn is_page is_slot = λ j. record {
  relation = relation j;
  key = (ap (λ (n : ℕ). take n (drop 2 (cell d at))) len ∙ text) j;
  name = record { page = (number_cell d at 66 (omega arith) ∙ is_page) j; slot = (number_cell d at 68 (omega arith) ∙ ap (u16_at d) (omega arith) ∙ is_slot) j };
}
  where
    first : (i : ℕ) → i < 66 → get_or (cell d at) i 0 ≡ get_or (cell c at) i 0
    first i lt = get_cell d at i (omega (arith, lt)) ∙ torn.below (at + i) (omega (arith, lt)) ∙ sym (get_cell c at i (omega (arith, lt)))

    relation : get_or (cell d at) 0 0 ≡ get_or (cell c at) 0 0
    relation = first 0 (omega arith)

    len : get_or (cell d at) 1 0 ≡ get_or (cell c at) 1 0
    len = first 1 (omega arith)

    text : take (get_or (cell c at) 1 0) (drop 2 (cell d at)) ≡ take (get_or (cell c at) 1 0) (drop 2 (cell c at))
    text = key_cell d at (get_or (cell c at) 1 0) (omega (arith, short))
        ∙ same_part (at + 2) (get_or (cell c at) 1 0) c d torn.size (same_torn (at + 66) 4 (at + 2) (get_or (cell c at) 1 0) c d torn (inl (omega (arith, short))))
        ∙ sym (key_cell c at (get_or (cell c at) 1 0) (omega (arith, short)))
