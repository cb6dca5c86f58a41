-- What is under a key in rows that stand in order.
use Rattle.std.proofs.Common.{◌≡◌, ◌⊎◌, inl, inr, ℕ, zero, suc, ◌+◌, ◌-◌, ◌<◌, ◌≤◌, ◌==◌, ◌&&◌, Bool, true, false, cond, List, [], ◌∷◌, ◌++◌, Option, Some, None, Result, Ok, Err, length, get_or, set, take, drop, bytes_eq, Less, Equal, Greater, refl, ap, sym, ◌∙◌, subst, arith}
use Rattle.std.specs.declared.cmp.Ordering.{Ordering}
use Rattle.std.specs.Cmp.Lexicographic.{bytes_decides}
use Rattle.std.specs.List.{insert, remove}
use Rattle.std.specs.List.Sorted.{IsNonDecreasingBy, IsBinarySearchResult, IsSearchInRange}
use Rattle.std.specs.Ordering.{ordering_index, is_eq}
use Rattle.std.proofs.lemmas.Bool.{and_parts, and_from, cases_order}
use Rattle.std.proofs.lemmas.Bool.Decides.{Decides-eqb}
use Rattle.std.proofs.lemmas.Cmp.{alike_right}
use Rattle.std.proofs.lemmas.List.{take-append-drop}
use Rattle.std.proofs.lemmas.List.Edits.{length-insert, get_or-insert_below, get_or-insert_at, get_or-insert_above}
use Rattle.mt_rows.specs.declared.rows.Row.{Row}
use Rattle.mt_rows.proofs.Order.{order_total, at-order, order_back, order_forth, none_all}
use Rattle.mt_rows.specs.Rows.{key_order, row_order, IsOrdered, is_at, value_at, inserted, updated, deleted, IsPlace, IsAltered}

-- ---- the order of keys

-- a row of a key, to compare others with
abbrev probe : ℕ → List ℕ → Row
probe r k = record { relation = r; key = k; value = [] }

index_most : (o : Ordering) → ordering_index o ≤ 2
index_most Less = omega arith
index_most Equal = omega arith
index_most Greater = omega arith

index_less : (o p : Ordering) → o ≡ Less → ordering_index o ≤ ordering_index p
index_less o p is = rw is (omega arith)

rises_at : (x y p : Row) (o : Ordering) → row_order y p ≡ o → row_order x y ≡ Less → ordering_index (row_order x p) ≤ ordering_index (row_order y p)
rises_at x y p Less is before = index_less (row_order x p) (row_order y p) (order_total.trans x y p before is)
rises_at x y p Equal is before = index_less (row_order x p) (row_order y p) (sym (alike_right order_total y p x is) ∙ before)
rises_at x y p Greater is before = rw is (index_most (row_order x p))

-- along rows in order the answers of a search rise
order_rises : (xs : List Row) (p : Row) → IsOrdered xs → IsNonDecreasingBy (λ x. ordering_index (row_order x p)) xs
order_rises xs p ordered i j d le lt = by_place (cases_order i j)
  where
    by_place : (i ≡ j) ⊎ ((i < j) ⊎ (j < i)) → ordering_index (row_order (get_or xs i d) p) ≤ ordering_index (row_order (get_or xs j d) p)
    by_place (inl same) = rw same (omega arith)
    by_place (inr (inl less)) = rises_at (get_or xs i d) (get_or xs j d) p (row_order (get_or xs j d) p) refl (ordered i j d less lt)
    by_place (inr (inr more)) = absurd (omega arith)

-- what a binary search gives is the place of the key
pub search_place : (xs : List Row) (r : ℕ) (k : List ℕ) (place : Result ℕ ℕ) → IsOrdered xs
    → IsBinarySearchResult (λ (x : Row). key_order x.relation x.key r k) xs place → IsSearchInRange place (length xs) → IsPlace xs r k place
search_place xs r k (Ok i) ordered found range = (range, found)
search_place xs r k (Err i) ordered found range =
    let parted = found (order_rises xs (probe r k) ordered) in (range, parted.0, parted.1)

-- ---- a key's test, from its order

at_equal : (x : Row) (r : ℕ) (k : List ℕ) → key_order x.relation x.key r k ≡ Equal → is_at r k x ≡ true
at_equal x r k is = sym (at-order x r k) ∙ ap is_eq is

not_at_less : (x : Row) (r : ℕ) (k : List ℕ) → key_order x.relation x.key r k ≡ Less → is_at r k x ≡ false
not_at_less x r k is = sym (at-order x r k) ∙ ap is_eq is

not_at_greater : (x : Row) (r : ℕ) (k : List ℕ) → key_order x.relation x.key r k ≡ Greater → is_at r k x ≡ false
not_at_greater x r k is = sym (at-order x r k) ∙ ap is_eq is

-- a row of one key is a row of another where the keys are the same
same_test : (r s : ℕ) (k l : List ℕ) (x : Row) → is_at r k x ≡ true → is_at s l x ≡ ((r == s) && bytes_eq k l)
same_test r s k l x h =
    let p = and_parts (x.relation == r) (bytes_eq x.key k) h in
    let relation : x.relation ≡ r = (Decides-eqb x.relation r).0 p.0 in
    let key : x.key ≡ k = (bytes_decides x.key k).0 p.1 in
    ap (λ w. (w == s) && bytes_eq x.key l) relation ∙ ap (λ w. (r == s) && bytes_eq w l) key

other_test : (r s : ℕ) (k l : List ℕ) (x : Row) → is_at r k x ≡ false → ((r == s) && bytes_eq k l) ≡ true → is_at s l x ≡ false
other_test r s k l x h same =
    let p = and_parts (r == s) (bytes_eq k l) same in
    let relation : r ≡ s = (Decides-eqb r s).0 p.0 in
    let key : k ≡ l = (bytes_decides k l).0 p.1 in
    subst (λ w. is_at w l x ≡ false) relation (subst (λ w. is_at r w x ≡ false) key h)

same_value : (xs : List Row) (r s : ℕ) (k l : List ℕ) → ((r == s) && bytes_eq k l) ≡ true → value_at xs s l ≡ value_at xs r k
same_value xs r s k l same =
    let p = and_parts (r == s) (bytes_eq k l) same in
    let relation : r ≡ s = (Decides-eqb r s).0 p.0 in
    let key : k ≡ l = (bytes_decides k l).0 p.1 in
    sym (ap (λ w. value_at xs w k) relation ∙ ap (λ w. value_at xs s w) key)

-- ---- rows in front of a row, and behind it

none_choice : (t : Bool) (v : List ℕ) (o : Option (List ℕ)) → cond t (Some v) o ≡ None → (t ≡ false) × (o ≡ None)
none_choice true v o h = absurd cc
none_choice false v o h = (refl, h)

past : (r s : ℕ) (k l : List ℕ) (y : Row) (v : List ℕ) (z : Option (List ℕ)) → is_at r k y ≡ false
    → (t : Bool) → ((r == s) && bytes_eq k l) ≡ t
    → cond (is_at s l y) (Some y.value) (cond t (Some v) z) ≡ cond t (Some v) (cond (is_at s l y) (Some y.value) z)
past r s k l y v z h true same = let other = other_test r s k l y h same in rw other refl
past r s k l y v z h false same = refl

-- a row of a key, with none of that key in front of it
with_row : (front back : List Row) (x : Row) (r s : ℕ) (k l : List ℕ) → value_at front r k ≡ None → is_at r k x ≡ true
    → value_at (front ++ x ∷ back) s l ≡ cond ((r == s) && bytes_eq k l) (Some x.value) (value_at (front ++ back) s l)
with_row [] back x r s k l none here = let test = same_test r s k l x here in rw test refl
with_row (y ∷ ys) back x r s k l none here =
    let parts = none_choice (is_at r k y) y.value (value_at ys r k) none in
    ap (λ w. cond (is_at s l y) (Some y.value) w) (with_row ys back x r s k l parts.1 here)
    ∙ past r s k l y x.value (value_at (ys ++ back) s l) parts.0 ((r == s) && bytes_eq k l) refl

none_both : (front back : List Row) (r : ℕ) (k : List ℕ) → value_at front r k ≡ None → value_at back r k ≡ None → value_at (front ++ back) r k ≡ None
none_both [] back r k front_none back_none = back_none
none_both (y ∷ ys) back r k front_none back_none =
    let parts = none_choice (is_at r k y) y.value (value_at ys r k) front_none in
    let other = parts.0 in
    rw other (none_both ys back r k parts.1 back_none)

none_take : (xs : List Row) (i : ℕ) (r : ℕ) (k : List ℕ) → i ≤ length xs → ((j : ℕ) (d : Row) → j < i → is_at r k (get_or xs j d) ≡ false) → value_at (take i xs) r k ≡ None
none_take xs zero r k le h = refl
none_take [] (suc i) r k le h = refl
none_take (x ∷ xs) (suc i) r k le h =
    let other : is_at r k x ≡ false = h 0 x (omega arith) in
    rw other (none_take xs i r k (omega arith) (λ j d lt. h (suc j) d (omega arith)))

none_drop : (xs : List Row) (n : ℕ) (r : ℕ) (k : List ℕ) → ((j : ℕ) (d : Row) → n ≤ j → j < length xs → is_at r k (get_or xs j d) ≡ false) → value_at (drop n xs) r k ≡ None
none_drop xs zero r k h = none_all xs r k (λ j d lt. h j d (omega arith) lt)
none_drop [] (suc n) r k h = refl
none_drop (x ∷ xs) (suc n) r k h = none_drop xs n r k (λ j d le lt. h (suc j) d (omega arith) (omega arith))

split_row : (xs : List Row) (i : ℕ) (d : Row) → i < length xs → xs ≡ take i xs ++ get_or xs i d ∷ drop (suc i) xs
split_row [] i d lt = absurd (omega arith)
split_row (x ∷ xs) zero d lt = refl
split_row (x ∷ xs) (suc i) d lt = ap (λ ys. x ∷ ys) (split_row xs i d (omega arith))

split_set : (xs : List Row) (i : ℕ) (y : Row) → i < length xs → set xs i y ≡ take i xs ++ y ∷ drop (suc i) xs
split_set [] i y lt = absurd (omega arith)
split_set (x ∷ xs) zero y lt = refl
split_set (x ∷ xs) (suc i) y lt = ap (λ ys. x ∷ ys) (split_set xs i y (omega arith))

-- ---- the place of a key

record IsApart (xs : List Row) (r : ℕ) (k : List ℕ) (i n : ℕ) : Type 0 where
  front : value_at (take i xs) r k ≡ None
  back : value_at (drop n xs) r k ≡ None

apart_found : (xs : List Row) (r : ℕ) (k : List ℕ) (i : ℕ) → IsOrdered xs → IsPlace xs r k (Ok i) → IsApart xs r k i (suc i)
apart_found xs r k i ordered place = record {
  front = none_take xs i r k (omega (arith, place.0)) (λ j d lt.
      not_at_less (get_or xs j d) r k
      (sym (alike_right order_total (get_or xs i d) (probe r k) (get_or xs j d) (place.1 d)) ∙ ordered j i d lt place.0));
  back = none_drop xs (suc i) r k (λ j d le lt.
      not_at_greater (get_or xs j d) r k
      (sym (alike_right order_total (get_or xs i d) (probe r k) (get_or xs j d) (place.1 d))
      ∙ order_back (get_or xs i d) (get_or xs j d) (ordered i j d (omega arith) lt)));
}

apart_absent : (xs : List Row) (r : ℕ) (k : List ℕ) (i : ℕ) → IsPlace xs r k (Err i) → IsApart xs r k i i
apart_absent xs r k i place = record {
  front = none_take xs i r k place.0 (λ j d lt. not_at_less (get_or xs j d) r k (place.1 j d (omega arith) lt));
  back = none_drop xs i r k (λ j d le lt. not_at_greater (get_or xs j d) r k (place.2 j d le lt));
}

-- the rows as those in front of the place, the row there, and those behind
found_is : (xs : List Row) (r s : ℕ) (k l : List ℕ) (i : ℕ) (d : Row) → IsOrdered xs → IsPlace xs r k (Ok i)
    → value_at xs s l ≡ cond ((r == s) && bytes_eq k l) (Some (get_or xs i d).value) (value_at (take i xs ++ drop (suc i) xs) s l)
found_is xs r s k l i d ordered place =
    ap (λ ys. value_at ys s l) (split_row xs i d place.0)
    ∙ with_row (take i xs) (drop (suc i) xs) (get_or xs i d) r s k l (apart_found xs r k i ordered place).front (at_equal (get_or xs i d) r k (place.1 d))

self_test : (r : ℕ) (k : List ℕ) → ((r == r) && bytes_eq k k) ≡ true
self_test r k = and_from (r == r) (bytes_eq k k) ((Decides-eqb r r).1 refl) ((bytes_decides k k).1 refl)

pub value_found : (xs : List Row) (r : ℕ) (k : List ℕ) (i : ℕ) (d : Row) → IsOrdered xs → IsPlace xs r k (Ok i) → value_at xs r k ≡ Some (get_or xs i d).value
value_found xs r k i d ordered place = let test = self_test r k in rw test at (found_is xs r r k k i d ordered place)

pub value_absent : (xs : List Row) (r : ℕ) (k : List ℕ) (i : ℕ) → IsPlace xs r k (Err i) → value_at xs r k ≡ None
value_absent xs r k i place =
    let apart = apart_absent xs r k i place in
    ap (λ ys. value_at ys r k) (sym (take-append-drop i xs)) ∙ none_both (take i xs) (drop i xs) r k apart.front apart.back

-- ---- what an edit alters

unaltered_at : (xs : List Row) (r s : ℕ) (k l : List ℕ) (f : Option (List ℕ) → Option (List ℕ)) → f (value_at xs r k) ≡ value_at xs r k
    → (t : Bool) → ((r == s) && bytes_eq k l) ≡ t → value_at xs s l ≡ cond t (f (value_at xs s l)) (value_at xs s l)
unaltered_at xs r s k l f stays true same = let e = same_value xs r s k l same in rw e (sym stays)
unaltered_at xs r s k l f stays false same = refl

pub unaltered : (xs : List Row) (r : ℕ) (k : List ℕ) (f : Option (List ℕ) → Option (List ℕ)) → f (value_at xs r k) ≡ value_at xs r k → IsAltered xs xs r k f
unaltered xs r k f stays s l = unaltered_at xs r s k l f stays ((r == s) && bytes_eq k l) refl

insert_at : (xs : List Row) (r s : ℕ) (k l v : List ℕ) → value_at xs r k ≡ None → (t : Bool) → ((r == s) && bytes_eq k l) ≡ t
    → cond t (Some v) (value_at xs s l) ≡ cond t (inserted v (value_at xs s l)) (value_at xs s l)
insert_at xs r s k l v none true same = let e = same_value xs r s k l same ∙ none in rw e refl
insert_at xs r s k l v none false same = refl

pub altered-insert : (xs : List Row) (r : ℕ) (k v : List ℕ) (i : ℕ) → IsPlace xs r k (Err i)
    → IsAltered xs (insert xs i (record { relation = r; key = k; value = v })) r k (inserted v)
altered-insert xs r k v i place s l =
    with_row (take i xs) (drop i xs) (record { relation = r; key = k; value = v }) r s k l (apart_absent xs r k i place).front (self_test r k)
    ∙ (ap (λ ys. cond ((r == s) && bytes_eq k l) (Some v) (value_at ys s l)) (take-append-drop i xs)
    ∙ insert_at xs r s k l v (value_absent xs r k i place) ((r == s) && bytes_eq k l) refl)

update_choice : (t : Bool) (v w : List ℕ) (z : Option (List ℕ)) → cond t (Some w) z ≡ cond t (updated w (cond t (Some v) z)) (cond t (Some v) z)
update_choice true v w z = refl
update_choice false v w z = refl

altered-update_at : (xs : List Row) (r : ℕ) (k v : List ℕ) (i : ℕ) (d : Row) → IsOrdered xs → IsPlace xs r k (Ok i)
    → IsAltered xs (set xs i (record { relation = (get_or xs i d).relation; key = (get_or xs i d).key; value = v })) r k (updated v)
altered-update_at xs r k v i d ordered place s l =
    let t : Bool = (r == s) && bytes_eq k l in
    let rest : Option (List ℕ) = value_at (take i xs ++ drop (suc i) xs) s l in
    let old : value_at xs s l ≡ cond t (Some (get_or xs i d).value) rest = found_is xs r s k l i d ordered place in
    let row : Row = record { relation = (get_or xs i d).relation; key = (get_or xs i d).key; value = v } in
    ap (λ ys. value_at ys s l) (split_set xs i row place.0)
    ∙ (with_row (take i xs) (drop (suc i) xs) row r s k l (apart_found xs r k i ordered place).front (at_equal (get_or xs i d) r k (place.1 d))
    ∙ (update_choice t (get_or xs i d).value v rest ∙ sym (ap (λ w. cond t (updated v w) w) old)))

pub altered-update : (xs : List Row) (r : ℕ) (k v : List ℕ) (i : ℕ) (x : Row) → x ≡ get_or xs i x → IsOrdered xs → IsPlace xs r k (Ok i)
    → IsAltered xs (set xs i (record { relation = x.relation; key = x.key; value = v })) r k (updated v)
altered-update xs r k v i x is ordered place =
    let row : Row → Row = λ (y : Row). record { relation = y.relation; key = y.key; value = v } in
    subst (λ (y : Row). IsAltered xs (set xs i (row y)) r k (updated v)) (sym is) (altered-update_at xs r k v i x ordered place)

delete_choice : (t : Bool) (v : List ℕ) (z : Option (List ℕ)) → (t ≡ true → z ≡ None) → z ≡ cond t (deleted (cond t (Some v) z)) (cond t (Some v) z)
delete_choice true v z h = h refl
delete_choice false v z h = refl

pub altered-delete : (xs : List Row) (r : ℕ) (k : List ℕ) (i : ℕ) (d : Row) → IsOrdered xs → IsPlace xs r k (Ok i)
    → IsAltered xs (remove xs i) r k deleted
altered-delete xs r k i d ordered place s l =
    let t : Bool = (r == s) && bytes_eq k l in
    let rest : Option (List ℕ) = value_at (take i xs ++ drop (suc i) xs) s l in
    let old : value_at xs s l ≡ cond t (Some (get_or xs i d).value) rest = found_is xs r s k l i d ordered place in
    let apart = apart_found xs r k i ordered place in
    delete_choice t (get_or xs i d).value rest (λ same.
    same_value (take i xs ++ drop (suc i) xs) r s k l same ∙ none_both (take i xs) (drop (suc i) xs) r k apart.front apart.back)
    ∙ sym (ap (λ w. cond t (deleted w) w) old)

-- ---- order

less_by : (a b x y : Row) → x ≡ a → y ≡ b → row_order a b ≡ Less → row_order x y ≡ Less
less_by a b x y left right less = ap (λ w. row_order w y) left ∙ (ap (λ w. row_order a w) right ∙ less)

-- a row that is put in at the place of its key
pub ordered-insert : (xs : List Row) (x : Row) (i : ℕ) → IsOrdered xs → IsPlace xs x.relation x.key (Err i) → IsOrdered (insert xs i x)
ordered-insert xs x i ordered place m n d lt within = by_place (cases_order n i)
  where
    size : length (insert xs i x) ≡ length xs + 1
    size = length-insert xs i x place.0

    before : (a : ℕ) → a < i → get_or (insert xs i x) a d ≡ get_or xs a d
    before a h = get_or-insert_below xs i x d a h place.0

    behind : (a : ℕ) → i < a → get_or (insert xs i x) a d ≡ get_or xs (a - 1) d
    behind a h = let e : (a - 1) + 1 ≡ a = omega arith in
        subst (λ b. get_or (insert xs i x) b d ≡ get_or xs (a - 1) d) e (get_or-insert_above xs i x d (a - 1) (omega arith) place.0)

    here : (a : ℕ) → a ≡ i → get_or (insert xs i x) a d ≡ x
    here a same = ap (λ b. get_or (insert xs i x) b d) same ∙ get_or-insert_at xs i x d place.0

    first_of_two : i < n → (m ≡ i) ⊎ ((m < i) ⊎ (i < m)) → row_order (get_or (insert xs i x) m d) (get_or (insert xs i x) n d) ≡ Less
    first_of_two late (inl same) =
        less_by x (get_or xs (n - 1) d) _ _ (here m same) (behind n late)
        (order_forth (get_or xs (n - 1) d) x (place.2 (n - 1) d (omega arith) (omega (arith, size))))
    first_of_two late (inr (inl less)) =
        less_by (get_or xs m d) (get_or xs (n - 1) d) _ _ (before m less) (behind n late)
        (ordered m (n - 1) d (omega arith) (omega (arith, size)))
    first_of_two late (inr (inr more)) =
        less_by (get_or xs (m - 1) d) (get_or xs (n - 1) d) _ _ (behind m more) (behind n late)
        (ordered (m - 1) (n - 1) d (omega arith) (omega (arith, size)))

    by_place : (n ≡ i) ⊎ ((n < i) ⊎ (i < n)) → row_order (get_or (insert xs i x) m d) (get_or (insert xs i x) n d) ≡ Less
    by_place (inl same) =
        less_by (get_or xs m d) x _ _ (before m (omega arith)) (here n same) (place.1 m d (omega arith) (omega arith))
    by_place (inr (inl less)) =
        less_by (get_or xs m d) (get_or xs n d) _ _ (before m (omega arith)) (before n less)
        (ordered m n d lt (omega (arith, place.0)))
    by_place (inr (inr more)) = first_of_two more (cases_order m i)
