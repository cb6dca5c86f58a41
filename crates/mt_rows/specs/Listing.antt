-- The rows under look-ups, in order. There is at most one such list, so a base with it is known by its look-ups alone.
use Rattle.std.specs.Prelude.{ℕ, ◌≡◌, ◌==◌, List, [], ◌∷◌, Option, Some, None, cond, filter}
use Rattle.std.specs.declared.cmp.Ordering.{Ordering}
use Rattle.std.specs.declared.cmp.Ordering.TheVariants.{Less, Equal, Greater}
use Rattle.mt_rows.specs.declared.rows.Row.{Row}
use Rattle.mt_rows.specs.Rows.{key_order, IsOrdered, value_at}

-- the rows in order, each key once, of which these are the look-ups
pub record Listing (rows : ℕ → List ℕ → Option (List ℕ)) : Type 0 where
  pub sorted : List Row
  pub rising : IsOrdered sorted
  pub complete : (r : ℕ) (k : List ℕ) → value_at sorted r k ≡ rows r k

-- the rows of one relation
abbrev pub of_relation : ℕ → List Row → List Row
of_relation r xs = filter (λ (x : Row). x.relation == r) xs

-- rows after one of this key, if it has a value
abbrev pub with_first : ℕ → List ℕ → Option (List ℕ) → List Row → List Row
with_first r k None xs = xs
with_first r k (Some v) xs = record { relation = r; key = k; value = v } ∷ xs

-- what becomes of rows whose first lies so to a key
abbrev pub at_first : Ordering → ℕ → List ℕ → (Option (List ℕ) → Option (List ℕ)) → Row → List Row → List Row → List Row
at_first Less r k f x xs ys = x ∷ ys
at_first Equal r k f x xs ys = with_first r k (f (Some x.value)) xs
at_first Greater r k f x xs ys = with_first r k (f None) (x ∷ xs)

-- rows in order with what is under one key altered
unfoldable pub altered : ℕ → List ℕ → (Option (List ℕ) → Option (List ℕ)) → List Row → List Row
altered r k f [] = with_first r k (f None) []
altered r k f (x ∷ xs) = at_first (key_order x.relation x.key r k) r k f x xs (altered r k f xs)

-- ---- the laws

-- look-ups have one list at most
abbrev pub ListingsAreOne : Type 0
ListingsAreOne = (rows : ℕ → List ℕ → Option (List ℕ)) (l m : Listing rows) → l ≡ m

-- rows in order that have a relation's look-ups, and no others, are its rows
abbrev pub RelationsAreOne : Type 0
RelationsAreOne =
    (rows : ℕ → List ℕ → Option (List ℕ)) (l : Listing rows) (r : ℕ) (xs : List Row) → IsOrdered xs
    → ((s : ℕ) (k : List ℕ) → value_at xs s k ≡ cond (s == r) (rows s k) None) → of_relation r l.sorted ≡ xs
