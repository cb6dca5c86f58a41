-- Loops over lists and over the records of batches, and filters under a view.
use Rattle.std.proofs.Common.{◌≡◌, inl, inr, ◌==◌, ◌&&◌, ℕ, zero, suc, ◌+◌, ◌<◌, Bool, true, false, cond, List, [], ◌∷◌, ◌++◌, length, take, drop, get_or, map, filter, refl, sym, ap, ◌∙◌, subst, below_more, append_assoc, arith}
use Rattle.std.proofs.lemmas.Bool.{cases_eq, eq-eqb, ne_eqb}
use Rattle.std.proofs.lemmas.List.{drop_more, take_more, get_or_append_left, get_or_push, length_push, map-append}
use Rattle.mt_frame.specs.declared.records.Record.{Record}
use Rattle.mt_log.specs.Batch.{joined}
use Rattle.mt_log.specs.Found.{records_of}
use Rattle.mt_log.specs.Holds.{AreRecords, AreBatches}
use Rattle.mt_log.specs.declared.batch.Batch.{Batch}
use Rattle.mt_steps.specs.Repeated.{Repeated, repeated, repeat}
use Rattle.mt_steps.proofs.Repeating.{repeat_more}
use Rattle.mt_replay.specs.Recorded.{Recorded, plus_record, plus_records}

pub map_filter : {A B : Type 0} (f : A → B) (p : A → Bool) (q : B → Bool) → ((x : A) → p x ≡ q (f x)) → (xs : List A) → map f (filter p xs) ≡ filter q (map f xs)
map_filter f p q same [] = refl
map_filter {A} {B} f p q same (x ∷ xs) = ap (λ (b : Bool). map f (cond b (x ∷ filter p xs) (filter p xs))) (same x) ∙ go (q (f x)) (map_filter f p q same xs)
  where
    go : (b : Bool) → map f (filter p xs) ≡ filter q (map f xs) → map f (cond b (x ∷ filter p xs) (filter p xs)) ≡ cond b (f x ∷ filter q (map f xs)) (filter q (map f xs))
    go true rest = ap (λ (ys : List B). f x ∷ ys) rest
    go false rest = rest

pub filter_all : {A : Type 0} (xs : List A) → filter (λ (x : A). true) xs ≡ xs
filter_all [] = refl
filter_all {A} (x ∷ xs) = ap (λ (ys : List A). x ∷ ys) (filter_all xs)

pub filter_none : {A : Type 0} (p : A → Bool) → ((x : A) → p x ≡ false) → (xs : List A) → filter p xs ≡ []
filter_none p never [] = refl
filter_none {A} p never (x ∷ xs) = ap (λ (b : Bool). cond b (x ∷ filter p xs) (filter p xs)) (never x) ∙ filter_none p never xs

pub filter_alike : {A : Type 0} (p q : A → Bool) → ((x : A) → p x ≡ q x) → (xs : List A) → filter p xs ≡ filter q xs
filter_alike p q same [] = refl
filter_alike {A} p q same (x ∷ xs) = ap (λ (b : Bool). cond b (x ∷ filter p xs) (filter p xs)) (same x) ∙ ap (λ (ys : List A). cond (q x) (x ∷ ys) ys) (filter_alike p q same xs)

pub filter_both : {A : Type 0} (p q : A → Bool) (xs : List A) → filter p (filter q xs) ≡ filter (λ (x : A). q x && p x) xs
filter_both p q [] = refl
filter_both {A} p q (x ∷ xs) = go (q x) (filter_both p q xs)
  where
    go : (a : Bool) → filter p (filter q xs) ≡ filter (λ (y : A). q y && p y) xs → filter p (cond a (x ∷ filter q xs) (filter q xs)) ≡ cond (a && p x) (x ∷ filter (λ (y : A). q y && p y) xs) (filter (λ (y : A). q y && p y) xs)
    go true rest = ap (λ (ys : List A). cond (p x) (x ∷ ys) ys) rest
    go false rest = rest

pub same_sides : (a b : ℕ) → (a == b) ≡ (b == a)
same_sides a b = elim (cases_eq a b) [
  | inl same ↦ eq-eqb a b same ∙ sym (eq-eqb b a (sym same))
  | inr other ↦ ne_eqb a b other ∙ sym (ne_eqb b a (λ is. other (sym is)))
]

pub repeat_at : (x : Repeated) (rs : List Record) (i : ℕ) (r : Record) → i < length rs → r ≡ get_or rs i r → repeat x (take (i + 1) rs) ≡ repeated (repeat x (take i rs)) r
repeat_at x rs i r lt is = ap (repeat x) (take_more rs i r lt) ∙ repeat_more x (take i rs) (get_or rs i r ∷ []) ∙ ap (repeated (repeat x (take i rs))) (sym is)

pub plus_more : (x : Recorded) (xs ys : List Record) → plus_records x (xs ++ ys) ≡ plus_records (plus_records x xs) ys
plus_more x [] ys = refl
plus_more x (r ∷ rs) ys = plus_more (plus_record x r) rs ys

joined_append : (xs ys : List (List Record)) → joined (xs ++ ys) ≡ joined xs ++ joined ys
joined_append [] ys = refl
joined_append (x ∷ xs) ys = ap (λ (rs : List Record). x ++ rs) (joined_append xs ys) ∙ sym (append_assoc x (joined xs) (joined ys))

none_behind : (xs : List Record) → xs ++ [] ≡ xs
none_behind [] = refl
none_behind (x ∷ xs) = ap (λ (ys : List Record). x ∷ ys) (none_behind xs)

pub joined_more : (bs : List Batch) (i : ℕ) (b : Batch) → i < length bs → b ≡ get_or bs i b → joined (records_of (take (i + 1) bs)) ≡ joined (records_of (take i bs)) ++ b.records.items
joined_more bs i b lt is =
    ap (λ (cs : List Batch). joined (records_of cs)) (take_more bs i b lt ∙ ap (λ (c : Batch). take i bs ++ c ∷ []) (sym is))
    ∙ ap joined (map-append (λ (c : Batch). c.records.items) (take i bs) (b ∷ []))
    ∙ joined_append (records_of (take i bs)) (records_of (b ∷ []))
    ∙ ap (λ (rs : List Record). joined (records_of (take i bs)) ++ rs) (none_behind b.records.items)

pub repeat_batch : (x : Repeated) (bs : List Batch) (i : ℕ) (b : Batch) → i < length bs → b ≡ get_or bs i b → repeat x (joined (records_of (take (i + 1) bs))) ≡ repeat (repeat x (joined (records_of (take i bs)))) b.records.items
repeat_batch x bs i b lt is = ap (repeat x) (joined_more bs i b lt is) ∙ repeat_more x (joined (records_of (take i bs))) b.records.items

pub joined_at : (bs : List Batch) (i : ℕ) (b : Batch) → i < length bs → b ≡ get_or bs i b → joined (records_of (drop i bs)) ≡ b.records.items ++ joined (records_of (drop (i + 1) bs))
joined_at bs i b lt is = ap (λ (cs : List Batch). joined (records_of cs)) (drop_more bs i b lt ∙ ap (λ (c : Batch). c ∷ drop (i + 1) bs) (sym is))

pub each_at : (n : ℕ) (bs : List Batch) (i : ℕ) (b : Batch) → i < length bs → b ≡ get_or bs i b → AreBatches n (records_of bs) → AreRecords n b.records.items
each_at n [] i b lt is all = absurd (omega arith)
each_at n (c ∷ cs) zero b lt is all = subst (λ (d : Batch). AreRecords n d.records.items) (sym is) all.0
each_at n (c ∷ cs) (suc i) b lt is all = each_at n cs i b (omega arith) is all.1

-- ---- one element more

pub take_next : {A : Type 0} (xs : List A) (i : ℕ) (x : A) → i < length xs → x ≡ get_or xs i x → take (i + 1) xs ≡ take i xs ++ x ∷ []
take_next {A} xs i x lt is = take_more xs i x lt ∙ ap (λ (y : A). take i xs ++ y ∷ []) (sym is)

pub length_more : {A : Type 0} (xs all : List A) (x : A) (n : ℕ) → length xs ≡ n → all ≡ xs ++ x ∷ [] → length all ≡ n + 1
length_more {A} xs all x n size is = ap (λ (ys : List A). length ys) is ∙ length_push xs x ∙ ap (λ (k : ℕ). k + 1) size

-- what holds of each element, and of one that is pushed
pub each_more : {A : Type 0} (P : ℕ → A → Type 0) (xs all : List A) (x d : A) (n : ℕ) → length xs ≡ n → all ≡ xs ++ x ∷ [] → ((k : ℕ) → k < n → P k (get_or xs k d)) → P n x
    → (k : ℕ) → k < n + 1 → P k (get_or all k d)
each_more {A} P xs all x d n size is before here = below_more (λ k. P k (get_or all k d)) n
    (λ k lt. subst (P k) (sym (ap (λ (ys : List A). get_or ys k d) is ∙ get_or_append_left xs (x ∷ []) d k (omega arith))) (before k lt))
    (subst (P n) (sym (ap (λ (ys : List A). get_or ys n d) is ∙ get_or_push xs x d n size)) here)
