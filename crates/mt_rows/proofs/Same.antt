-- The test whether rows are the same.
use Rattle.std.proofs.Common.{◌≡◌, ◌==◌, ◌&&◌, true, List, bytes_eq, refl, subst, Decides}
use Rattle.std.proofs.lemmas.Bool.{and_parts, and_from}
use Rattle.std.proofs.lemmas.Bool.Decides.{Decides-eqb}
use Rattle.std.specs.Cmp.Lexicographic.{bytes_decides, pointwise, pointwise_decides}
use Rattle.mt_rows.specs.declared.rows.Row.{Row}
use Rattle.mt_rows.specs.Rows.{same_row}
use Rattle.mt_rows.proofs.Listings.{rows_equal}

same_row_self : (x : Row) → same_row x x ≡ true
same_row_self x =
    and_from (x.relation == x.relation && bytes_eq x.key x.key) (bytes_eq x.value x.value)
    (and_from (x.relation == x.relation) (bytes_eq x.key x.key) ((Decides-eqb x.relation x.relation).1 refl) ((bytes_decides x.key x.key).1 refl))
    ((bytes_decides x.value x.value).1 refl)

same_row_decides : (x y : Row) → (same_row x y ≡ true → x ≡ y) × (x ≡ y → same_row x y ≡ true)
same_row_decides x y = (
  λ h.
      let whole = and_parts (x.relation == y.relation && bytes_eq x.key y.key) (bytes_eq x.value y.value) h in
      let keys = and_parts (x.relation == y.relation) (bytes_eq x.key y.key) whole.0 in
      rows_equal x y ((Decides-eqb x.relation y.relation).0 keys.0) ((bytes_decides x.key y.key).0 keys.1) ((bytes_decides x.value y.value).0 whole.1),
  λ e. subst (λ (z : Row). same_row x z ≡ true) e (same_row_self x),
)

pub same_rows_decides : (xs ys : List Row) → Decides (pointwise same_row xs ys) (xs ≡ ys)
same_rows_decides xs ys = pointwise_decides same_row_decides xs ys
