-- What takes an operation back, and what an operation with no inverse left.
use Rattle.std.proofs.Common.{◌≡◌, ℕ, ℤ, pos, ◌≤ℤ◌, neg_ℤ, Bool, true, false, cond, List, Option, Some, None, refl, ap, ◌∙◌, subst, arith}
use Rattle.std.proofs.lemmas.Int.{ints}
use Rattle.mt_model.specs.declared.counters.Count.{Count}
use Rattle.mt_model.specs.declared.objects.Asks.{Asks}
use Rattle.mt_model.specs.declared.operations.Op.{Op}
use Rattle.mt_model.specs.declared.operations.Op.TheVariants.{Get, Insert, Update, Delete, Add, Read, Scan}
use Rattle.mt_model.specs.declared.operations.Reply.{Reply}
use Rattle.mt_model.specs.declared.operations.Reply.TheVariants.{Done, Was, OutOfBounds}
use Rattle.mt_model.specs.Model.{Base, IsBase, IsInBounds, Object, Key, Counter, Relation, asks_of, object_of, same_object, moved, stays, inserted, updated, deleted, done_unless, was, reply_of, base_after, inverse_of}
use Rattle.mt_model.proofs.Cells.{Cell, cell, next, says, is_scan, reply-cell, scan_leaves, cell-own, same-true, same_base}
use Rattle.mt_model.proofs.Steps.{added_back}

-- ---- an operation with no inverse

no_insert : (r : ℕ) (k v : List ℕ) (row : Option (List ℕ)) → inverse_of (Insert r k v) (done_unless row) ≡ None → inserted v row ≡ row
no_insert r k v None h = absurd cc
no_insert r k v (Some old) h = refl

no_update : (r : ℕ) (k v : List ℕ) (row : Option (List ℕ)) → inverse_of (Update r k v) (was row) ≡ None → updated v row ≡ row
no_update r k v None h = refl
no_update r k v (Some old) h = absurd cc

no_delete : (r : ℕ) (k : List ℕ) (row : Option (List ℕ)) → inverse_of (Delete r k) (was row) ≡ None → deleted row ≡ row
no_delete r k None h = refl
no_delete r k (Some old) h = absurd cc

no_add : (c : ℕ) (d : ℤ) (n m : Count) (t : Bool) → inverse_of (Add c d) (cond t Done OutOfBounds) ≡ None → cond t m n ≡ n
no_add c d n m true h = absurd cc
no_add c d n m false h = refl

pub effectless : (op : Op) (c : Cell) → inverse_of op (says op c) ≡ None → next op c ≡ c
effectless (Get r k) c h = refl
effectless (Read n) c h = refl
effectless (Scan r) c h = refl
effectless (Insert r k v) c h = let e = no_insert r k v c.row h in λ i. record { row = e i; count = c.count }
effectless (Update r k v) c h = let e = no_update r k v c.row h in λ i. record { row = e i; count = c.count }
effectless (Delete r k) c h = let e = no_delete r k c.row h in λ i. record { row = e i; count = c.count }
effectless (Add n d) c h =
    let e = no_add n d c.count (moved c.count d) (stays c.count d) h in λ i. record { row = c.row; count = e i }

-- ---- an inverse

abbrev both : Option (List ℕ) → Count → Cell
both row n = record { row = row; count = n }

-- i gives the cell before again
pub record TakesBack (i : Op) (before after : Cell) : Type 0 where
  pub back : next i after ≡ before

takes : (i j : Op) (before after : Cell) → Some i ≡ Some j → next i after ≡ before → TakesBack j before after
takes i j before after e h = let same : i ≡ j = cc in subst (λ x. TakesBack x before after) same (record { back = h })

take_insert : (r : ℕ) (k v : List ℕ) (row : Option (List ℕ)) (i : Op) (n : Count) → inverse_of (Insert r k v) (done_unless row) ≡ Some i
    → TakesBack i (both row n) (both (inserted v row) n)
take_insert r k v None i n h = takes (Delete r k) i _ _ h refl
take_insert r k v (Some old) i n h = absurd cc

take_update : (r : ℕ) (k v : List ℕ) (row : Option (List ℕ)) (i : Op) (n : Count) → inverse_of (Update r k v) (was row) ≡ Some i
    → TakesBack i (both row n) (both (updated v row) n)
take_update r k v (Some old) i n h = takes (Update r k old) i _ _ h refl
take_update r k v None i n h = absurd cc

take_delete : (r : ℕ) (k : List ℕ) (row : Option (List ℕ)) (i : Op) (n : Count) → inverse_of (Delete r k) (was row) ≡ Some i
    → TakesBack i (both row n) (both (deleted row) n)
take_delete r k (Some old) i n h = takes (Insert r k old) i _ _ h refl
take_delete r k None i n h = absurd cc

take_add : (c : ℕ) (d : ℤ) (row : Option (List ℕ)) (i : Op) (n : Count) (t : Bool) → IsInBounds n
    → inverse_of (Add c d) (cond t Done OutOfBounds) ≡ Some i → TakesBack i (both row n) (both row (cond t (moved n d) n))
take_add c d row i n true within h = takes (Add c (neg_ℤ d)) i _ _ h (ap (both row) (added_back n d within))
take_add c d row i n false within h = absurd cc

pub takes_back : (op i : Op) (c : Cell) → IsInBounds c.count → inverse_of op (says op c) ≡ Some i → TakesBack i c (next op c)
takes_back (Get r k) i c within h = absurd cc
takes_back (Read n) i c within h = absurd cc
takes_back (Scan r) i c within h = absurd cc
takes_back (Insert r k v) i c within h = take_insert r k v c.row i c.count h
takes_back (Update r k v) i c within h = take_update r k v c.row i c.count h
takes_back (Delete r k) i c within h = take_delete r k c.row i c.count h
takes_back (Add n d) i c within h = take_add n d c.row i c.count (stays c.count d) within h

-- ---- what an inverse asks for

asked : (op i j : Op) → Some i ≡ Some j → asks_of i ≡ asks_of op → asks_of j ≡ asks_of op
asked op i j e h = let same : i ≡ j = cc in subst (λ x. asks_of x ≡ asks_of op) same h

pub inverse_asks : (op i : Op) (reply : Reply) → inverse_of op reply ≡ Some i → asks_of i ≡ asks_of op
inverse_asks (Insert r k v) i Done h = asked (Insert r k v) (Delete r k) i h refl
inverse_asks (Update r k v) i (Was old) h = asked (Update r k v) (Update r k old) i h refl
inverse_asks (Delete r k) i (Was old) h = asked (Delete r k) (Insert r k old) i h refl
inverse_asks (Add c d) i Done h = asked (Add c d) (Add c (neg_ℤ d)) i h refl
inverse_asks (Insert r k v) i _ h = absurd cc
inverse_asks (Update r k v) i _ h = absurd cc
inverse_asks (Delete r k) i _ h = absurd cc
inverse_asks (Add c d) i _ h = absurd cc
inverse_asks (Get r k) i _ h = absurd cc
inverse_asks (Read c) i _ h = absurd cc
inverse_asks (Scan r) i _ h = absurd cc

-- neither is a scan
pub undone_no_scan : (op i : Op) (reply : Reply) → inverse_of op reply ≡ Some i → is_scan op ≡ false
undone_no_scan (Insert r k v) i reply h = refl
undone_no_scan (Update r k v) i reply h = refl
undone_no_scan (Delete r k) i reply h = refl
undone_no_scan (Add c d) i reply h = refl
undone_no_scan (Get r k) i reply h = refl
undone_no_scan (Read c) i reply h = refl
undone_no_scan (Scan r) i _ h = absurd cc

same_scan : (i j : Op) → Some i ≡ Some j → is_scan i ≡ false → is_scan j ≡ false
same_scan i j e h = let same : i ≡ j = cc in subst (λ x. is_scan x ≡ false) same h

pub inverse_no_scan : (op i : Op) (reply : Reply) → inverse_of op reply ≡ Some i → is_scan i ≡ false
inverse_no_scan (Insert r k v) i Done h = same_scan (Delete r k) i h refl
inverse_no_scan (Update r k v) i (Was old) h = same_scan (Update r k old) i h refl
inverse_no_scan (Delete r k) i (Was old) h = same_scan (Insert r k old) i h refl
inverse_no_scan (Add c d) i Done h = same_scan (Add c (neg_ℤ d)) i h refl
inverse_no_scan (Insert r k v) i _ h = absurd cc
inverse_no_scan (Update r k v) i _ h = absurd cc
inverse_no_scan (Delete r k) i _ h = absurd cc
inverse_no_scan (Add c d) i _ h = absurd cc
inverse_no_scan (Get r k) i _ h = absurd cc
inverse_no_scan (Read c) i _ h = absurd cc
inverse_no_scan (Scan r) i _ h = absurd cc

-- ---- over bases

unchanged : {A : Type 0} (t : Bool) (x y : A) → (t ≡ true → x ≡ y) → cond t x y ≡ y
unchanged true x y h = h refl
unchanged false x y h = refl

pub base_effectless : (b : Base) (op : Op) → inverse_of op (reply_of b op) ≡ None → base_after b op ≡ b
base_effectless b op h = by (is_scan op) refl
  where
    by : (t : Bool) → is_scan op ≡ t → base_after b op ≡ b
    by true scans = scan_leaves b op scans
    by false single =
        let none : inverse_of op (says op (cell b (object_of op))) ≡ None = subst (λ r. inverse_of op r ≡ None) (reply-cell b op single) h in
        same_base (base_after b op) b (λ x.
        cell-own b op x single ∙ unchanged (same_object (object_of op) x) (next op (cell b x)) (cell b x)
        (λ same. subst (λ y. next op (cell b y) ≡ cell b y) (same-true (object_of op) x same)
        (effectless op (cell b (object_of op)) none)))

twice : (t : Bool) (op i : Op) (c : Cell) → (t ≡ true → next i (next op c) ≡ c)
    → cond t (next i (cond t (next op c) c)) (cond t (next op c) c) ≡ c
twice true op i c h = h refl
twice false op i c h = refl

zero_within : pos 0 ≤ℤ pos 0
zero_within = omega (arith, ints)

pub cell_within : (b : Base) (x : Object) → IsBase b → IsInBounds (cell b x).count
cell_within b (Key r k) within = record { not_under = zero_within; not_over = zero_within }
cell_within b (Counter c) within = within c
cell_within b (Relation r) within = record { not_under = zero_within; not_over = zero_within }

pub base_takes : (b : Base) (op i : Op) → IsBase b → inverse_of op (reply_of b op) ≡ Some i
    → TakesBack i (cell b (object_of op)) (next op (cell b (object_of op)))
base_takes b op i within h = takes_back op i (cell b (object_of op)) (cell_within b (object_of op) within)
    (subst (λ r. inverse_of op r ≡ Some i) (reply-cell b op (undone_no_scan op i (reply_of b op) h)) h)

pub base_back : (b : Base) (op i : Op) → IsBase b → inverse_of op (reply_of b op) ≡ Some i → base_after (base_after b op) i ≡ b
base_back b op i within h =
    let asks = inverse_asks op i (reply_of b op) h in
    let taken = base_takes b op i within h in
    same_base (base_after (base_after b op) i) b (λ x.
    cell-own (base_after b op) i x (inverse_no_scan op i (reply_of b op) h)
    ∙ (ap (λ y. cond (same_object y x) (next i (cell (base_after b op) x)) (cell (base_after b op) x)) (ap (λ (a : Asks). a.object) asks)
    ∙ (ap (λ c. cond (same_object (object_of op) x) (next i c) c) (cell-own b op x (undone_no_scan op i (reply_of b op) h))
    ∙ twice (same_object (object_of op) x) op i (cell b x)
    (λ same. subst (λ y. next i (next op (cell b y)) ≡ cell b y) (same-true (object_of op) x same) taken.back))))
