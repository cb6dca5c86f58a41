-- Different numbers below n are at most n many.
use Rattle.std.proofs.Common.{◌≡◌, ◌≢◌, ℕ, zero, suc, ◌<◌, ◌≤◌, List, [], ◌∷◌, ◌++◌, length, ap, sym, subst, arith, length-append, ◌⊎◌, inl, inr}
use Rattle.std.proofs.lemmas.Bool.{cases_eq}
use Rattle.mt_index.specs.Maps.{Each}
use Rattle.mt_index.proofs.Lists.{each_map, each_remove}
use Rattle.mt_index.proofs.Overflow.{each_both}
use Rattle.mt_index.specs.Index.{Node, Linked}
use Rattle.mt_index.proofs.Chains.{behind}

abbrev pub Distinct : List ℕ → Type 0
Distinct [] = Unit {0}
Distinct (x ∷ xs) = Each (λ y. y ≢ x) xs × Distinct xs

pub distinct_remove : (front : List ℕ) (n : ℕ) (back : List ℕ) → Distinct (front ++ n ∷ back) → Distinct (front ++ back) × Each (λ y. y ≢ n) (front ++ back)
distinct_remove [] n back d = (d.1, d.0)
distinct_remove (x ∷ front) n back d =
    let r = distinct_remove front n back d.1 in
    let s = each_remove (λ y. y ≢ x) front n back d.0 in
    ((s.1, r.0), (λ e. s.0 (sym e), r.1))

place : (n : ℕ) (xs : List ℕ) → ((front : List ℕ) × (back : List ℕ) × (xs ≡ front ++ n ∷ back)) ⊎ Each (λ x. x ≢ n) xs
place n [] = inr tt
place n (x ∷ xs) = go (cases_eq x n) (place n xs)
  where
    go : (x ≡ n) ⊎ (x ≡ n → ⊥) → ((front : List ℕ) × (back : List ℕ) × (xs ≡ front ++ n ∷ back)) ⊎ Each (λ y. y ≢ n) xs
        → ((front : List ℕ) × (back : List ℕ) × (x ∷ xs ≡ front ++ n ∷ back)) ⊎ Each (λ y. y ≢ n) (x ∷ xs)
    go (inl here) r = inl ([], xs, ap (λ y. y ∷ xs) here)
    go (inr there) (inl r) = inl (x ∷ r.0, r.1, ap (λ ys. x ∷ ys) r.2)
    go (inr there) (inr r) = inr (there, r)

lower : (n : ℕ) (xs : List ℕ) → Each (λ x. x < suc n) xs → Each (λ x. x ≢ n) xs → Each (λ x. x < n) xs
lower n xs a b = each_map (λ x. (x < suc n) × (x ≢ n)) (λ x. x < n) (λ x h. let p = h.0 in let q = h.1 in omega (arith, p, q)) xs (each_both (λ x. x < suc n) (λ x. x ≢ n) xs a b)

pub short : (n : ℕ) (xs : List ℕ) → Each (λ x. x < n) xs → Distinct xs → length xs ≤ n
short zero [] h d = omega arith
short zero (x ∷ xs) h d = absurd (let p = h.0 in omega (arith, p))
short (suc n) xs h d = go (λ ys. short n ys) (place n xs)
  where
    go : ((ys : List ℕ) → Each (λ x. x < n) ys → Distinct ys → length ys ≤ n) → ((front : List ℕ) × (back : List ℕ) × (xs ≡ front ++ n ∷ back)) ⊎ Each (λ x. x ≢ n) xs → length xs ≤ suc n
    go rec (inr away) = let r = rec xs (lower n xs h away) d in omega (arith, r)
    go rec (inl r) =
        let s = distinct_remove r.0 n r.1 (subst Distinct r.2 d) in
        let below = lower n (r.0 ++ r.1) (each_remove (λ x. x < suc n) r.0 n r.1 (subst (Each (λ x. x < suc n)) r.2 h)).1 s.1 in
        let l = rec (r.0 ++ r.1) below s.0 in
        let e : length xs ≡ length (r.0 ++ n ∷ r.1) = ap length r.2 in
        omega (arith, l, e, length-append r.0 r.1, length-append r.0 (n ∷ r.1))

pub chain_distinct : (node : ℕ → Node) (q : ℕ) (ns : List ℕ) → Linked node q ns → Distinct ns
chain_distinct node q [] a = tt
chain_distinct node q (n ∷ ns) a = (behind node q [] n ns a, chain_distinct node (node n).next ns a.2)
