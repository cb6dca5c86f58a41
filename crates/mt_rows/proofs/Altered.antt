-- What is altered under one key stays in order, and the look-ups are as they should be.
use Rattle.std.proofs.Common.{◌≡◌, inl, inr, ℕ, suc, ◌==◌, ◌&&◌, Bool, true, false, cond, List, [], ◌∷◌, Option, Some, None, bytes_eq, Less, Equal, Greater, refl, ap, sym, ◌∙◌, arith}
use Rattle.std.specs.declared.cmp.Ordering.{Ordering}
use Rattle.std.specs.Cmp.Lexicographic.{bytes_decides}
use Rattle.std.specs.Ordering.{is_eq}
use Rattle.std.proofs.lemmas.Bool.{and_parts}
use Rattle.std.proofs.lemmas.Bool.Decides.{Decides-eqb}
use Rattle.mt_rows.specs.declared.rows.Row.{Row}
use Rattle.mt_rows.specs.Rows.{key_order, row_order, IsOrdered, is_at, value_at}
use Rattle.mt_rows.specs.Listing.{with_first, at_first, altered}
use Rattle.mt_rows.proofs.Order.{at-order, not_at, order_forth, order_same, EachRow, each_cons, tail_ordered, head_less, cons_ordered, before_rest, none_later}

-- the row of a key, with a value
abbrev pub row_of : ℕ → List ℕ → List ℕ → Row
row_of r k v = record { relation = r; key = k; value = v }

-- ---- keys that are the same

pub same_keys : (r s : ℕ) (k l : List ℕ) → ((r == s) && bytes_eq k l) ≡ true → (r ≡ s) × (k ≡ l)
same_keys r s k l h = let p = and_parts (r == s) (bytes_eq k l) h in ((Decides-eqb r s).0 p.0, (bytes_decides k l).0 p.1)

-- what is at the key with a row in front, or with none
look_with : (r : ℕ) (k : List ℕ) (o : Option (List ℕ)) (xs : List Row) (s : ℕ) (l : List ℕ) → value_at xs r k ≡ None
    → value_at (with_first r k o xs) s l ≡ cond ((r == s) && bytes_eq k l) o (value_at xs s l)
look_with r k (Some v) xs s l none = refl
look_with r k None xs s l none = go ((r == s) && bytes_eq k l) refl
  where
    go : (t : Bool) → ((r == s) && bytes_eq k l) ≡ t → value_at xs s l ≡ cond t None (value_at xs s l)
    go false is = refl
    go true is = let keys = same_keys r s k l is in ap (λ q. value_at xs q l) (sym keys.0) ∙ (ap (λ q. value_at xs r q) (sym keys.1) ∙ none)

abbrev Looks : ℕ → List ℕ → (Option (List ℕ) → Option (List ℕ)) → List Row → List Row → Type 0
Looks r k f old new = (s : ℕ) (l : List ℕ) → value_at new s l ≡ cond ((r == s) && bytes_eq k l) (f (value_at old s l)) (value_at old s l)

-- the first row is of another key
other_first : (r : ℕ) (k : List ℕ) (f : Option (List ℕ) → Option (List ℕ)) (x : Row) (xs ys : List Row) → is_at r k x ≡ false → Looks r k f xs ys → Looks r k f (x ∷ xs) (x ∷ ys)
other_first r k f x xs ys other rest s l = go (is_at s l x) refl ((r == s) && bytes_eq k l) refl
  where
    go : (b : Bool) → is_at s l x ≡ b → (t : Bool) → ((r == s) && bytes_eq k l) ≡ t
        → cond (is_at s l x) (Some x.value) (value_at ys s l) ≡ cond t (f (cond (is_at s l x) (Some x.value) (value_at xs s l))) (cond (is_at s l x) (Some x.value) (value_at xs s l))
    go true here true is = let keys = same_keys r s k l is in absurd (clash (sym here ∙ (ap (λ q. is_at q l x) (sym keys.0) ∙ (ap (λ q. is_at r q x) (sym keys.1) ∙ other))))
      where
        clash : true ≡ false → ⊥
        clash h = cc
    go true here false is = rw here refl
    go false here t is = rw here (rest s l ∙ ap (λ w. cond w (f (value_at xs s l)) (value_at xs s l)) is)

-- the first row is of this key
own_first : (r : ℕ) (k : List ℕ) (f : Option (List ℕ) → Option (List ℕ)) (x : Row) (xs : List Row) → x.relation ≡ r → x.key ≡ k → value_at xs r k ≡ None → Looks r k f (x ∷ xs) (with_first r k (f (Some x.value)) xs)
own_first r k f x xs relation key none s l =
    look_with r k (f (Some x.value)) xs s l none ∙ go ((r == s) && bytes_eq k l) (is_at s l x) (ap (λ q. (q == s) && bytes_eq x.key l) relation ∙ ap (λ q. (r == s) && bytes_eq q l) key)
  where
    go : (t b : Bool) → b ≡ t → cond t (f (Some x.value)) (value_at xs s l) ≡ cond t (f (cond b (Some x.value) (value_at xs s l))) (cond b (Some x.value) (value_at xs s l))
    go true true is = refl
    go false false is = refl
    go true false is = absurd cc
    go false true is = absurd cc

-- the order of a row to a key is that to any row of it
to_key : (x : Row) (r : ℕ) (k v : List ℕ) (o : Ordering) → key_order x.relation x.key r k ≡ o → row_order x (row_of r k v) ≡ o
to_key x r k v o is = is

pub equal_keys : (x : Row) (r : ℕ) (k : List ℕ) → key_order x.relation x.key r k ≡ Equal → (x.relation ≡ r) × (x.key ≡ k)
equal_keys x r k is = same_keys x.relation r x.key k (sym (at-order x r k) ∙ ap is_eq is)

pub altered_looks : (r : ℕ) (k : List ℕ) (f : Option (List ℕ) → Option (List ℕ)) (xs : List Row) → IsOrdered xs → Looks r k f xs (altered r k f xs)
unfolding altered
altered_looks r k f [] ordered = λ s l. look_with r k (f None) [] s l refl
altered_looks r k f (x ∷ xs) ordered = go (altered_looks r k f xs (tail_ordered x xs ordered)) (key_order x.relation x.key r k) refl
  where
    go : Looks r k f xs (altered r k f xs) → (o : Ordering) → key_order x.relation x.key r k ≡ o → Looks r k f (x ∷ xs) (at_first o r k f x xs (altered r k f xs))
    go rest Less is = other_first r k f x xs (altered r k f xs) (not_at x r k Less is refl) rest
    go rest Equal is =
        let keys = equal_keys x r k is in
        own_first r k f x xs keys.0 keys.1 (none_later (row_of r k []) xs (before_rest (row_of r k []) x xs ordered (inr (order_same x (row_of r k []) is))))
    go rest Greater is = λ s l. look_with r k (f None) (x ∷ xs) s l none ∙ go2 s l ((r == s) && bytes_eq k l) refl
      where
        none : value_at (x ∷ xs) r k ≡ None
        none = none_later (row_of r k []) (x ∷ xs) (each_cons (λ z. row_order (row_of r k []) z ≡ Less) x xs (order_forth x (row_of r k []) is) (before_rest (row_of r k []) x xs ordered (inl (order_forth x (row_of r k []) is))))

        go2 : (s : ℕ) (l : List ℕ) (t : Bool) → ((r == s) && bytes_eq k l) ≡ t → cond t (f None) (value_at (x ∷ xs) s l) ≡ cond t (f (value_at (x ∷ xs) s l)) (value_at (x ∷ xs) s l)
        go2 s l false same = refl
        go2 s l true same = let keys = same_keys r s k l same in ap f (sym none ∙ (ap (λ q. value_at (x ∷ xs) q k) keys.0 ∙ ap (λ q. value_at (x ∷ xs) s q) keys.1))

-- ---- order

each_with : (P : Row → Type 0) (r : ℕ) (k : List ℕ) (o : Option (List ℕ)) (xs : List Row) → ((v : List ℕ) → P (row_of r k v)) → EachRow P xs → EachRow P (with_first r k o xs)
each_with P r k None xs new h = h
each_with P r k (Some v) xs new h = each_cons P (row_of r k v) xs (new v) h

each_altered : (P : Row → Type 0) (r : ℕ) (k : List ℕ) (f : Option (List ℕ) → Option (List ℕ)) (xs : List Row) → ((v : List ℕ) → P (row_of r k v)) → EachRow P xs → EachRow P (altered r k f xs)
unfolding altered
each_altered P r k f [] new h = each_with P r k (f None) [] new h
each_altered P r k f (x ∷ xs) new h =
    let later : EachRow P xs = λ j d lt. h (suc j) d (omega (arith, lt)) in
    go later (each_altered P r k f xs new later) (key_order x.relation x.key r k)
  where
    go : EachRow P xs → EachRow P (altered r k f xs) → (o : Ordering) → EachRow P (at_first o r k f x xs (altered r k f xs))
    go later rec Less = each_cons P x (altered r k f xs) (h 0 x (omega arith)) rec
    go later rec Equal = each_with P r k (f (Some x.value)) xs new later
    go later rec Greater = each_with P r k (f None) (x ∷ xs) new h

ordered_with : (r : ℕ) (k : List ℕ) (o : Option (List ℕ)) (xs : List Row) → EachRow (λ z. row_order (row_of r k []) z ≡ Less) xs → IsOrdered xs → IsOrdered (with_first r k o xs)
ordered_with r k None xs less rest = rest
ordered_with r k (Some v) xs less rest = cons_ordered (row_of r k v) xs less rest

pub altered_ordered : (r : ℕ) (k : List ℕ) (f : Option (List ℕ) → Option (List ℕ)) (xs : List Row) → IsOrdered xs → IsOrdered (altered r k f xs)
unfolding altered
altered_ordered r k f [] ordered = ordered_with r k (f None) [] (λ j d lt. absurd (omega (arith, lt))) ordered
altered_ordered r k f (x ∷ xs) ordered = go (altered_ordered r k f xs (tail_ordered x xs ordered)) (key_order x.relation x.key r k) refl
  where
    go : IsOrdered (altered r k f xs) → (o : Ordering) → key_order x.relation x.key r k ≡ o → IsOrdered (at_first o r k f x xs (altered r k f xs))
    go rec Less is = cons_ordered x (altered r k f xs) (each_altered (λ z. row_order x z ≡ Less) r k f xs (λ v. is) (head_less x xs ordered)) rec
    go rec Equal is = ordered_with r k (f (Some x.value)) xs (before_rest (row_of r k []) x xs ordered (inr (order_same x (row_of r k []) is))) (tail_ordered x xs ordered)
    go rec Greater is =
        let less : row_order (row_of r k []) x ≡ Less = order_forth x (row_of r k []) is in
        ordered_with r k (f None) (x ∷ xs) (each_cons (λ z. row_order (row_of r k []) z ≡ Less) x xs less (before_rest (row_of r k []) x xs ordered (inl less))) ordered
