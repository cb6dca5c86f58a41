-- The rows of one relation, in order, are known by its look-ups.
use Rattle.std.proofs.Common.{◌≡◌, ℕ, suc, ◌==◌, Bool, true, false, cond, List, [], ◌∷◌, ◌+◌, ◌<◌, length, take, get_or, Option, Some, None, Less, refl, ap, sym, ◌∙◌, arith}
use Rattle.std.specs.Prelude.{filter, ◌++◌}
use Rattle.std.proofs.lemmas.List.Elements.{filter-append}
use Rattle.std.proofs.lemmas.List.{take_more}
use Rattle.mt_rows.specs.declared.rows.Row.{Row}
use Rattle.mt_rows.specs.Rows.{row_order, IsOrdered, is_at, value_at}
use Rattle.mt_rows.specs.Listing.{Listing, of_relation}
use Rattle.mt_rows.proofs.Order.{EachRow, each_cons, tail_ordered, head_less, cons_ordered}
use Rattle.mt_rows.proofs.Altered.{same_keys}
use Rattle.mt_rows.proofs.Listings.{ordered_same}

each_filter : (P : Row → Type 0) (p : Row → Bool) (xs : List Row) → EachRow P xs → EachRow P (filter p xs)
each_filter P p [] h = h
each_filter P p (x ∷ xs) h = go (each_filter P p xs (λ j d lt. h (suc j) d (omega (arith, lt)))) (p x)
  where
    go : EachRow P (filter p xs) → (t : Bool) → EachRow P (cond t (x ∷ filter p xs) (filter p xs))
    go rest true = each_cons P x (filter p xs) (h 0 x (omega arith)) rest
    go rest false = rest

pub filter_ordered : (p : Row → Bool) (xs : List Row) → IsOrdered xs → IsOrdered (filter p xs)
filter_ordered p [] h = h
filter_ordered p (x ∷ xs) h = go (filter_ordered p xs (tail_ordered x xs h)) (p x)
  where
    go : IsOrdered (filter p xs) → (t : Bool) → IsOrdered (cond t (x ∷ filter p xs) (filter p xs))
    go rest true = cons_ordered x (filter p xs) (each_filter (λ z. row_order x z ≡ Less) p xs (head_less x xs h)) rest
    go rest false = rest

abbrev the_none : Option (List ℕ)
the_none = None

pub filter_looks : (r : ℕ) (xs : List Row) (s : ℕ) (k : List ℕ) → value_at (filter (λ (x : Row). x.relation == r) xs) s k ≡ cond (s == r) (value_at xs s k) None
filter_looks r [] s k = go (s == r)
  where
    go : (t : Bool) → the_none ≡ cond t the_none the_none
    go true = refl
    go false = refl
filter_looks r (x ∷ xs) s k = go (x.relation == r) refl (is_at s k x) refl (filter_looks r xs s k)
  where
    rest : List Row
    rest = filter (λ (x : Row). x.relation == r) xs

    go : (t : Bool) → (x.relation == r) ≡ t → (b : Bool) → is_at s k x ≡ b → value_at rest s k ≡ cond (s == r) (value_at xs s k) None
        → value_at (cond t (x ∷ rest) rest) s k ≡ cond (s == r) (cond b (Some x.value) (value_at xs s k)) None
    go true own true at rec =
        let keys = same_keys x.relation s x.key k at in
        let there : (s == r) ≡ true = ap (λ q. q == r) (sym keys.0) ∙ own in
        rw (at, there) refl
    go true own false at rec = rw at rec
    go false own true at rec =
        let keys = same_keys x.relation s x.key k at in
        let there : (s == r) ≡ false = ap (λ q. q == r) (sym keys.0) ∙ own in
        rec ∙ rw there refl
    go false own false at rec = rec

pub relations_are : (rows : ℕ → List ℕ → Option (List ℕ)) (l : Listing rows) (r : ℕ) (xs : List Row) → IsOrdered xs
    → ((s : ℕ) (k : List ℕ) → value_at xs s k ≡ cond (s == r) (rows s k) None) → of_relation r l.sorted ≡ xs
relations_are rows l r xs ordered looks =
    ordered_same (of_relation r l.sorted) xs (filter_ordered (λ (x : Row). x.relation == r) l.sorted l.rising) ordered
    (λ s k. filter_looks r l.sorted s k ∙ (ap (λ o. cond (s == r) o None) (l.complete s k) ∙ sym (looks s k)))

-- of one row more
pub of_relation_more : (r : ℕ) (xs : List Row) (i : ℕ) (x : Row) → x ≡ get_or xs i x → i < length xs
    → of_relation r (take (i + 1) xs) ≡ of_relation r (take i xs) ++ cond (x.relation == r) (x ∷ []) []
of_relation_more r xs i x is within =
    let more : take (i + 1) xs ≡ take i xs ++ x ∷ [] = take_more xs i x within ∙ ap (λ y. take i xs ++ y ∷ []) (sym is) in
    ap (of_relation r) more ∙ filter-append (λ (y : Row). y.relation == r) (take i xs) (x ∷ [])
