-- Rows in order: each comes before all later ones, and none of these has its key.
use Rattle.std.proofs.Common.{◌≡◌, ◌⊎◌, inl, inr, ℕ, zero, suc, ◌<◌, ◌==◌, ◌&&◌, false, List, [], ◌∷◌, None, length, get_or, Less, Equal, Greater, refl, ap, sym, ◌∙◌, arith}
use Rattle.std.specs.declared.cmp.Ordering.{Ordering}
use Rattle.std.specs.Cmp.{IsTotalOrder, unsigned_tied}
use Rattle.std.specs.Cmp.Lexicographic.{slice_cmp}
use Rattle.std.specs.Ordering.{nat_cmp, ordering_then, ordering_reverse, is_eq}
use Rattle.std.proofs.lemmas.Cmp.{nat_cmp_total, nat_list_cmp_total, on_total, then_total}
use Rattle.std.proofs.lemmas.Map.Text.{is_eq-slice_cmp}
use Rattle.mt_rows.specs.declared.rows.Row.{Row}
use Rattle.mt_rows.specs.Rows.{key_order, row_order, IsOrdered, is_at, value_at}

pub order_total : IsTotalOrder row_order
order_total = then_total (on_total (λ (x : Row). x.relation) nat_cmp_total) (on_total (λ (x : Row). x.key) nat_list_cmp_total)

then_equal : (o p : Ordering) → is_eq (ordering_then o p) ≡ (is_eq o && is_eq p)
then_equal Less p = refl
then_equal Equal p = refl
then_equal Greater p = refl

pub at-order : (x : Row) (r : ℕ) (k : List ℕ) → is_eq (key_order x.relation x.key r k) ≡ is_at r k x
at-order x r k =
    then_equal (nat_cmp x.relation r) (slice_cmp nat_cmp x.key k)
    ∙ (ap (λ w. w && is_eq (slice_cmp nat_cmp x.key k)) (unsigned_tied x.relation r)
    ∙ ap (λ w. (x.relation == r) && w) (is_eq-slice_cmp x.key k))

-- a row that comes before a key, or after it, is not at it
pub not_at : (x : Row) (r : ℕ) (k : List ℕ) (o : Ordering) → key_order x.relation x.key r k ≡ o → is_eq o ≡ false → is_at r k x ≡ false
not_at x r k o is other = sym (at-order x r k) ∙ (ap is_eq is ∙ other)

pub order_back : (x y : Row) → row_order x y ≡ Less → row_order y x ≡ Greater
order_back x y is = order_total.antisymm y x ∙ ap ordering_reverse is

pub order_forth : (x y : Row) → row_order x y ≡ Greater → row_order y x ≡ Less
order_forth x y is = order_total.antisymm y x ∙ ap ordering_reverse is

pub order_same : (x y : Row) → row_order x y ≡ Equal → row_order y x ≡ Equal
order_same x y is = order_total.antisymm y x ∙ ap ordering_reverse is

-- each of these rows
abbrev pub EachRow : (Row → Type 0) → List Row → Type 0
EachRow P xs = (j : ℕ) (d : Row) → j < length xs → P (get_or xs j d)

pub each_cons : (P : Row → Type 0) (x : Row) (xs : List Row) → P x → EachRow P xs → EachRow P (x ∷ xs)
each_cons P x xs p h zero d lt = p
each_cons P x xs p h (suc j) d lt = h j d (omega (arith, lt))

pub tail_ordered : (x : Row) (xs : List Row) → IsOrdered (x ∷ xs) → IsOrdered xs
tail_ordered x xs h i j d lt within = h (suc i) (suc j) d (omega (arith, lt)) (omega (arith, within))

pub head_less : (x : Row) (xs : List Row) → IsOrdered (x ∷ xs) → EachRow (λ y. row_order x y ≡ Less) xs
head_less x xs h j d within = h 0 (suc j) d (omega arith) (omega (arith, within))

pub cons_ordered : (x : Row) (xs : List Row) → EachRow (λ y. row_order x y ≡ Less) xs → IsOrdered xs → IsOrdered (x ∷ xs)
cons_ordered x xs less rest zero zero d lt within = absurd (omega (arith, lt))
cons_ordered x xs less rest zero (suc j) d lt within = less j d (omega (arith, within))
cons_ordered x xs less rest (suc i) zero d lt within = absurd (omega (arith, lt))
cons_ordered x xs less rest (suc i) (suc j) d lt within = rest i j d (omega (arith, lt)) (omega (arith, within))

pub none_all : (xs : List Row) (r : ℕ) (k : List ℕ) → EachRow (λ y. is_at r k y ≡ false) xs → value_at xs r k ≡ None
none_all [] r k h = refl
none_all (x ∷ xs) r k h =
    let other : is_at r k x ≡ false = h 0 x (omega arith) in
    rw other (none_all xs r k (λ j d lt. h (suc j) d (omega (arith, lt))))

-- what comes before a row, or is at it, comes before all later ones
pub before_rest : (y x : Row) (xs : List Row) → IsOrdered (x ∷ xs) → (row_order y x ≡ Less) ⊎ (row_order y x ≡ Equal)
    → EachRow (λ z. row_order y z ≡ Less) xs
before_rest y x xs h (inl less) j d lt = order_total.trans y x (get_or xs j d) less (head_less x xs h j d lt)
before_rest y x xs h (inr same) j d lt = order_total.congr y x (get_or xs j d) same ∙ head_less x xs h j d lt

-- none of these has its key
pub none_later : (y : Row) (xs : List Row) → EachRow (λ z. row_order y z ≡ Less) xs → value_at xs y.relation y.key ≡ None
none_later y xs less = none_all xs y.relation y.key (λ j d lt. not_at (get_or xs j d) y.relation y.key Greater (order_back y (get_or xs j d) (less j d lt)) refl)
