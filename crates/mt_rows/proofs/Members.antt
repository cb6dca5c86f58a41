-- What is under a key, by the rows that are in a list.
use Rattle.std.proofs.Common.{◌≡◌, ℕ, zero, suc, ◌==◌, Bool, true, false, cond, List, [], ◌∷◌, Option, Some, None, Less, refl, ap, sym, ◌∙◌, subst, arith}
use Rattle.std.specs.Prelude.{Contains}
use Rattle.std.proofs.lemmas.Bool.Decides.{Decides-eqb}
use Rattle.mt_rows.specs.declared.rows.Row.{Row}
use Rattle.mt_rows.specs.Rows.{row_order, IsOrdered, is_at, value_at}
use Rattle.mt_rows.specs.Listing.{Listing, of_relation}
use Rattle.mt_rows.proofs.Order.{not_at, tail_ordered, head_less}
use Rattle.mt_rows.proofs.Altered.{row_of, same_keys}
use Rattle.mt_rows.proofs.Listings.{first_value, rows_equal, some_equal}
use Rattle.mt_rows.proofs.Relations.{relations_are}

-- a value that is found is that of a row in the list
pub found_contained : (xs : List Row) (r : ℕ) (k v : List ℕ) → value_at xs r k ≡ Some v → Contains xs (row_of r k v)
found_contained [] r k v found = absurd cc
found_contained (x ∷ xs) r k v found = go (is_at r k x) refl (found_contained xs r k v)
  where
    go : (t : Bool) → is_at r k x ≡ t → (value_at xs r k ≡ Some v → Contains xs (row_of r k v)) → Contains (x ∷ xs) (row_of r k v)
    go true at rest =
        let keys = same_keys x.relation r x.key k at in
        let value : Some x.value ≡ Some v = sym (ap (λ t. cond t (Some x.value) (value_at xs r k)) at) ∙ found in
        (0, omega arith, rows_equal x (row_of r k v) keys.0 keys.1 (some_equal value))
    go false at rest =
        let has = rest (sym (ap (λ t. cond t (Some x.value) (value_at xs r k)) at) ∙ found) in
        (suc has.0, omega (arith, has.1), has.2)

-- and under the key of a row some value is found
pub contained_somewhere : (xs : List Row) (x : Row) → Contains xs x → (w : List ℕ) × (value_at xs x.relation x.key ≡ Some w)
contained_somewhere [] x has = absurd (let lt = has.1 in omega (arith, lt))
contained_somewhere (y ∷ ys) x (zero, lt, is) =
    (y.value, subst (λ (z : Row). value_at (y ∷ ys) z.relation z.key ≡ Some y.value) is (first_value y ys))
contained_somewhere (y ∷ ys) x (suc i, lt, is) = go (is_at x.relation x.key y) refl (contained_somewhere ys x (i, omega (arith, lt), is))
  where
    go : (t : Bool) → is_at x.relation x.key y ≡ t → (w : List ℕ) × (value_at ys x.relation x.key ≡ Some w) → (w : List ℕ) × (value_at (y ∷ ys) x.relation x.key ≡ Some w)
    go true at rest = (y.value, ap (λ t. cond t (Some y.value) (value_at ys x.relation x.key)) at)
    go false at rest = (rest.0, ap (λ t. cond t (Some y.value) (value_at ys x.relation x.key)) at ∙ rest.1)

-- of rows in order it is the row's own
pub contained_found : (xs : List Row) (x : Row) → IsOrdered xs → Contains xs x → value_at xs x.relation x.key ≡ Some x.value
contained_found [] x ordered has = absurd (omega (arith, has.1))
contained_found (y ∷ ys) x ordered (zero, lt, is) =
    subst (λ (z : Row). value_at (y ∷ ys) z.relation z.key ≡ Some z.value) is (first_value y ys)
contained_found (y ∷ ys) x ordered (suc i, lt, is) =
    let less : row_order y x ≡ Less = subst (λ (z : Row). row_order y z ≡ Less) is (head_less y ys ordered i x (omega (arith, lt))) in
    let other : is_at x.relation x.key y ≡ false = not_at y x.relation x.key Less less refl in
    ap (λ t. cond t (Some y.value) (value_at ys x.relation x.key)) other
    ∙ contained_found ys x (tail_ordered y ys ordered) (i, omega (arith, lt), is)

-- rows in order that are just those of these look-ups have them
pub looked_up : (xs : List Row) (f : ℕ → List ℕ → Option (List ℕ)) → IsOrdered xs → ((s : ℕ) (k v : List ℕ) → f s k ≡ Some v → Contains xs (row_of s k v))
    → ((x : Row) → Contains xs x → f x.relation x.key ≡ Some x.value) → (s : ℕ) (k : List ℕ) → value_at xs s k ≡ f s k
looked_up xs f ordered some all s k = go (value_at xs s k) refl (f s k) refl
  where
    go : (o : Option (List ℕ)) → value_at xs s k ≡ o → (w : Option (List ℕ)) → f s k ≡ w → o ≡ w
    go (Some v) is w other = sym (all (row_of s k v) (found_contained xs s k v is)) ∙ other
    go None is None other = refl
    go None is (Some v) other = sym is ∙ contained_found xs (row_of s k v) ordered (some s k v other)

-- rows in order that are just those of a relation are its rows
pub relation_is : (rows : ℕ → List ℕ → Option (List ℕ)) (l : Listing rows) (r : ℕ) (xs : List Row) → IsOrdered xs
    → ((k v : List ℕ) → rows r k ≡ Some v → Contains xs (row_of r k v))
    → ((x : Row) → Contains xs x → (x.relation ≡ r) × (rows x.relation x.key ≡ Some x.value)) → of_relation r l.sorted ≡ xs
relation_is rows l r xs ordered some all =
    relations_are rows l r xs ordered (looked_up xs (λ s k. cond (s == r) (rows s k) None) ordered one each)
  where
    one : (s : ℕ) (k v : List ℕ) → cond (s == r) (rows s k) None ≡ Some v → Contains xs (row_of s k v)
    one s k v is = go (s == r) refl
      where
        go : (t : Bool) → (s == r) ≡ t → Contains xs (row_of s k v)
        go true own =
            let same : s ≡ r = (Decides-eqb s r).0 own in
            let there : rows s k ≡ Some v = sym (ap (λ t. cond t (rows s k) None) own) ∙ is in
            subst (λ q. Contains xs (row_of q k v)) (sym same) (some k v (subst (λ q. rows q k ≡ Some v) same there))
        go false other = let none : None ≡ Some v = sym (ap (λ t. cond t (rows s k) None) other) ∙ is in absurd cc

    each : (x : Row) → Contains xs x → cond (x.relation == r) (rows x.relation x.key) None ≡ Some x.value
    each x has =
        let is = all x has in
        ap (λ t. cond t (rows x.relation x.key) None) ((Decides-eqb x.relation r).1 is.0) ∙ is.1
