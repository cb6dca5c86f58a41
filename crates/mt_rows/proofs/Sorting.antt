-- Rows with different keys, once they are sorted, stand in order.
use Rattle.std.proofs.Common.{◌≡◌, ◌≢◌, ◌⊎◌, inl, inr, ℕ, ◌+◌, ◌<◌, List, length, get_or, swap, false, Less, Equal, Greater, is_lt, IsPermutation, refl, ap, sym, ◌∙◌, arith}
use Rattle.std.specs.declared.cmp.Ordering.{Ordering}
use Rattle.std.specs.List.Sorted.{IsSortedBy}
use Rattle.std.specs.Ordering.{ordering_reverse}
use Rattle.std.proofs.lemmas.Bool.{cases_eq, cases_order}
use Rattle.std.proofs.lemmas.List.Edits.{Swapped, swapped_from_swap, length-swap}
use Rattle.std.proofs.lemmas.List.Sorted.{IsPermutation-keeps}
use Rattle.std.proofs.lemmas.Map.Keys.{sorted_from_all_adjacent, Less-from_sorted}
use Rattle.mt_rows.specs.declared.rows.Row.{Row}
use Rattle.mt_rows.specs.Rows.{row_order, IsOrdered, AreKeysOnce}
use Rattle.mt_rows.proofs.Order.{order_total, order_same}

-- ---- in another order no key stands twice either

-- rows of one key stand at one place
one_place : (xs : List Row) → AreKeysOnce xs → (i j : ℕ) (d : Row) → i < length xs → j < length xs → row_order (get_or xs i d) (get_or xs j d) ≡ Equal → i ≡ j
one_place xs once i j d p q e = by (cases_order i j)
  where
    by : (i ≡ j) ⊎ ((i < j) ⊎ (j < i)) → i ≡ j
    by (inl same) = same
    by (inr (inl less)) = absurd (once i j d less q e)
    by (inr (inr more)) = absurd (once j i d more p (order_same (get_or xs i d) (get_or xs j d) e))

-- from which place an exchange of a and b took what stands at m
abbrev From : ℕ → ℕ → ℕ → ℕ → Type 0
From a b m k = ((m ≡ a) × (k ≡ b)) ⊎ (((m ≡ b) × (k ≡ a)) ⊎ ((m ≢ a) × (m ≢ b) × (k ≡ m)))

origin : (f g : ℕ → Row) (a b m : ℕ) → Swapped f g a b → (m ≡ a) ⊎ (m ≢ a) → (m ≡ b) ⊎ (m ≢ b) → (k : ℕ) × From a b m k × (g m ≡ f k)
origin f g a b m s (inl e) y = (b, inl (e, refl), ap g e ∙ s.0)
origin f g a b m s (inr n) (inl e) = (a, inr (inl (e, refl)), ap g e ∙ s.1)
origin f g a b m s (inr n) (inr o) = (m, inr (inr (n, o, refl)), s.2 m n o)

once_swapped : (xs : List Row) (a b : ℕ) → a < length xs → b < length xs → AreKeysOnce xs → AreKeysOnce (swap xs a b)
once_swapped xs a b p q once i j d less within e =
    let len = length-swap xs a b in
    let s = swapped_from_swap xs (swap xs a b) a b d p q refl in
    let x = origin _ _ a b i s (cases_eq i a) (cases_eq i b) in
    let y = origin _ _ a b j s (cases_eq j a) (cases_eq j b) in
    let same = one_place xs once x.0 y.0 d (omega (arith, x.1)) (omega (arith, y.1)) (ap (λ r. row_order r (get_or xs y.0 d)) (sym x.2) ∙ (ap (λ r. row_order (get_or (swap xs a b) i d) r) (sym y.2) ∙ e)) in
    omega (arith, x.1, y.1)

once_permuted : (xs ys : List Row) → IsPermutation xs ys → AreKeysOnce xs → AreKeysOnce ys
once_permuted xs ys moved once = IsPermutation-keeps xs AreKeysOnce once (λ l a b p q h. once_swapped l a b p q h) ys moved

-- ---- sorted rows

less_only : (o p : Ordering) → o ≡ ordering_reverse p → is_lt p ≡ false → o ≢ Equal → o ≡ Less
less_only o Less e p n = absurd cc
less_only o Equal e p n = absurd (n e)
less_only o Greater e p n = e

pub sorted_ordered : (xs ys : List Row) → IsPermutation xs ys → AreKeysOnce xs → IsSortedBy (λ x y. is_lt (row_order x y)) ys → IsOrdered ys
sorted_ordered xs ys moved once sorted i j d less within =
    Less-from_sorted row_order ys i j d (sorted_from_all_adjacent order_total ys d rises) less within
  where
    rises : (k : ℕ) → k + 1 < length ys → row_order (get_or ys k d) (get_or ys (k + 1) d) ≡ Less
    rises k h =
        less_only (row_order (get_or ys k d) (get_or ys (k + 1) d)) (row_order (get_or ys (k + 1) d) (get_or ys k d))
        (order_total.antisymm (get_or ys k d) (get_or ys (k + 1) d)) (sorted k d (omega arith) h)
        (once_permuted xs ys moved once k (k + 1) d (omega arith) h)
