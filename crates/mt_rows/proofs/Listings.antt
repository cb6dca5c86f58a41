-- Rows in order are known by their look-ups, so look-ups have one listing at most.
use Rattle.std.proofs.Common.{◌≡◌, inl, ℕ, ◌==◌, ◌&&◌, Bool, true, false, cond, List, [], ◌∷◌, Option, Some, None, bytes_eq, Less, Equal, Greater, refl, ap, sym, ◌∙◌, arith}
use Rattle.std.specs.declared.cmp.Ordering.{Ordering}
use Rattle.std.specs.Cmp.Lexicographic.{bytes_decides}
use Rattle.std.specs.Coded.{coded_ℕ, coded_option, coded_list}
use Rattle.std.specs.Ordering.{Ordering-set}
use Rattle.std.proofs.lemmas.Bool.{and_from}
use Rattle.std.proofs.lemmas.Bool.Decides.{Decides-eqb}
use mathlib.Core.HLevel.{Π_prop, is_prop→PathP}
use denote.Struct.Props.{≡_prop}
use Rattle.mt_rows.specs.declared.rows.Row.{Row}
use Rattle.mt_rows.specs.Rows.{row_order, IsOrdered, is_at, value_at}
use Rattle.mt_rows.specs.Listing.{Listing, altered}
use Rattle.mt_rows.proofs.Order.{order_forth, EachRow, each_cons, tail_ordered, head_less, before_rest, none_later}
use Rattle.mt_rows.proofs.Altered.{same_keys, equal_keys, altered_looks, altered_ordered}

-- the listing with what is under one key altered
pub with_altered : (rows : ℕ → List ℕ → Option (List ℕ)) (r : ℕ) (k : List ℕ) (f : Option (List ℕ) → Option (List ℕ)) → Listing rows
    → Listing (λ s l. cond ((r == s) && bytes_eq k l) (f (rows s l)) (rows s l))
with_altered rows r k f old = record {
  sorted = altered r k f old.sorted;
  rising = altered_ordered r k f old.sorted old.rising;
  complete = λ s l. altered_looks r k f old.sorted old.rising s l ∙ ap (λ o. cond ((r == s) && bytes_eq k l) (f o) o) (old.complete s l);
}

-- any list of rows, put in order; of a key that stands twice the first counts
pub listed : (xs : List Row) → Listing (λ r k. value_at xs r k)
listed [] = record { sorted = []; rising = λ i j d lt within. absurd (omega (arith, within)); complete = λ r k. refl }
listed (x ∷ xs) = with_altered (λ r k. value_at xs r k) x.relation x.key (λ o. Some x.value) (listed xs)

-- ---- one list at most

own_at : (x : Row) → is_at x.relation x.key x ≡ true
own_at x = and_from (x.relation == x.relation) (bytes_eq x.key x.key) ((Decides-eqb x.relation x.relation).1 refl) ((bytes_decides x.key x.key).1 refl)

pub first_value : (x : Row) (xs : List Row) → value_at (x ∷ xs) x.relation x.key ≡ Some x.value
first_value x xs = ap (λ b. cond b (Some x.value) (value_at xs x.relation x.key)) (own_at x)

abbrev SameLooks : List Row → List Row → Type 0
SameLooks xs ys = (r : ℕ) (k : List ℕ) → value_at xs r k ≡ value_at ys r k

-- a row that comes before all of these is not looked up there
no_less : (x : Row) (xs ys : List Row) → EachRow (λ z. row_order x z ≡ Less) ys → value_at (x ∷ xs) x.relation x.key ≡ value_at ys x.relation x.key → ⊥
no_less x xs ys less same = absurd (clash (sym (first_value x xs) ∙ (same ∙ none_later x ys less)))
  where
    clash : {v : List ℕ} → Some v ≡ None → ⊥
    clash h = cc

pub rows_equal : (x y : Row) → x.relation ≡ y.relation → x.key ≡ y.key → x.value ≡ y.value → x ≡ y
rows_equal x y r k v i = record { relation = r i; key = k i; value = v i }

pub some_equal : {v w : List ℕ} → Some v ≡ Some w → v ≡ w
some_equal h = cc

pub ordered_same : (xs ys : List Row) → IsOrdered xs → IsOrdered ys → ((r : ℕ) (k : List ℕ) → value_at xs r k ≡ value_at ys r k) → xs ≡ ys
ordered_same [] [] a b same = refl
ordered_same [] (y ∷ ys) a b same = absurd (no_less y ys [] (λ j d lt. absurd (omega (arith, lt))) (sym (same y.relation y.key)))
ordered_same (x ∷ xs) [] a b same = absurd (no_less x xs [] (λ j d lt. absurd (omega (arith, lt))) (same x.relation x.key))
ordered_same (x ∷ xs) (y ∷ ys) a b same = go (λ tails. ordered_same xs ys (tail_ordered x xs a) (tail_ordered y ys b) tails) (row_order x y) refl
  where
    go : (SameLooks xs ys → xs ≡ ys) → (o : Ordering) → row_order x y ≡ o → (x ∷ xs) ≡ (y ∷ ys)
    go rec Less is = absurd (no_less x xs (y ∷ ys) (each_cons (λ z. row_order x z ≡ Less) y ys is (before_rest x y ys b (inl is))) (same x.relation x.key))
    go rec Greater is = absurd (no_less y ys (x ∷ xs) (each_cons (λ z. row_order y z ≡ Less) x xs (order_forth x y is) (before_rest y x xs a (inl (order_forth x y is)))) (sym (same y.relation y.key)))
    go rec Equal is = cons heads (rec tails)
      where
        keys : (x.relation ≡ y.relation) × (x.key ≡ y.key)
        keys = equal_keys x y.relation y.key is

        here : value_at (y ∷ ys) x.relation x.key ≡ Some y.value
        here = ap (λ q. value_at (y ∷ ys) q x.key) keys.0 ∙ (ap (λ q. value_at (y ∷ ys) y.relation q) keys.1 ∙ first_value y ys)

        heads : x ≡ y
        heads = rows_equal x y keys.0 keys.1 (some_equal (sym (first_value x xs) ∙ (same x.relation x.key ∙ here)))

        cons : x ≡ y → xs ≡ ys → (x ∷ xs) ≡ (y ∷ ys)
        cons h t i = h i ∷ t i

        tests : (r : ℕ) (k : List ℕ) → is_at r k x ≡ is_at r k y
        tests r k = ap (λ z. is_at r k z) heads

        tails : (r : ℕ) (k : List ℕ) → value_at xs r k ≡ value_at ys r k
        tails r k = by (is_at r k x) refl
          where
            by : (t : Bool) → is_at r k x ≡ t → value_at xs r k ≡ value_at ys r k
            by true at =
                let ks = same_keys x.relation r x.key k at in
                let none_x : value_at xs r k ≡ None = ap (λ q. value_at xs q k) (sym ks.0) ∙ (ap (λ q. value_at xs x.relation q) (sym ks.1) ∙ none_later x xs (head_less x xs a)) in
                let kt = same_keys y.relation r y.key k (sym (tests r k) ∙ at) in
                let none_y : value_at ys r k ≡ None = ap (λ q. value_at ys q k) (sym kt.0) ∙ (ap (λ q. value_at ys y.relation q) (sym kt.1) ∙ none_later y ys (head_less y ys b)) in
                none_x ∙ sym none_y
            by false at =
                let other : is_at r k y ≡ false = sym (tests r k) ∙ at in
                sym (ap (λ t. cond t (Some x.value) (value_at xs r k)) at) ∙ (same r k ∙ ap (λ t. cond t (Some y.value) (value_at ys r k)) other)

-- ---- one listing at most

ordered_prop : (xs : List Row) → IsProp (IsOrdered xs)
ordered_prop xs = hlevel (Ordering-set)

all_prop : (rows : ℕ → List ℕ → Option (List ℕ)) (xs : List Row) → IsProp ((r : ℕ) (k : List ℕ) → value_at xs r k ≡ rows r k)
all_prop rows xs = Π_prop (λ r. Π_prop (λ k. ≡_prop (coded_option (coded_list coded_ℕ)) _ _))

pub listing_prop : (rows : ℕ → List ℕ → Option (List ℕ)) (l m : Listing rows) → l ≡ m
listing_prop rows l m i =
    let same : l.sorted ≡ m.sorted = ordered_same l.sorted m.sorted l.rising m.rising (λ r k. l.complete r k ∙ sym (m.complete r k)) in
    record {
      sorted = same i;
      rising = is_prop→PathP (λ j. IsOrdered (same j)) (λ j. ordered_prop (same j)) l.rising m.rising i;
      complete = is_prop→PathP (λ j. (r : ℕ) (k : List ℕ) → value_at (same j) r k ≡ rows r k) (λ j. all_prop rows (same j)) l.complete m.complete i;
    }

-- rows that are in order are listed as they are
pub listed_as_is : (xs : List Row) → IsOrdered xs → (listed xs).sorted ≡ xs
listed_as_is xs ordered = ordered_same (listed xs).sorted xs (listed xs).rising ordered (listed xs).complete
