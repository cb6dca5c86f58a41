-- Sums of what calls weigh, as far as a loop over them has come.
use Rattle.std.proofs.Common.{◌≡◌, ◌∙◌, ℕ, zero, suc, ◌<◌, ◌≤◌, ◌+◌, List, [], ◌∷◌, ◌++◌, length, map, take, get_or, refl, sym, ap, arith}
use Rattle.std.specs.List.{sum_by}
use Rattle.std.proofs.lemmas.List.{take_more}
use Rattle.std.proofs.lemmas.List.Sums.{sum_by-cons, sum_by_push}

pub sum_mapped : {A B : Type 0} (w : B → ℕ) (f : A → B) (xs : List A) → sum_by w (map f xs) ≡ sum_by (λ (x : A). w (f x)) xs
sum_mapped w f [] = refl
sum_mapped {A} w f (x ∷ xs) =
    let rest = sum_mapped w f xs in let whole = sum_by-cons w (f x) (map f xs) in let own = sum_by-cons (λ (y : A). w (f y)) x xs in
    omega (arith, rest, whole, own)

sum_front : {A : Type 0} (w : A → ℕ) (n : ℕ) (xs : List A) → sum_by w (take n xs) ≤ sum_by w xs
sum_front w zero xs = omega arith
sum_front w (suc n) [] = omega arith
sum_front w (suc n) (x ∷ xs) =
    let rest = sum_front w n xs in let whole = sum_by-cons w x xs in let own = sum_by-cons w x (take n xs) in
    omega (arith, rest, whole, own)

-- one more
pub sum_next : {A : Type 0} (w : A → ℕ) (xs : List A) (i : ℕ) (x : A) → i < length xs → x ≡ get_or xs i x → sum_by w (take (i + 1) xs) ≡ sum_by w (take i xs) + w x
sum_next {A} w xs i x lt is = ap (sum_by w) (take_more xs i x lt ∙ ap (λ (y : A). take i xs ++ y ∷ []) (sym is)) ∙ sum_by_push w (take i xs) x

pub sum_within : {A : Type 0} (w : A → ℕ) (xs : List A) (i : ℕ) (x : A) → i < length xs → x ≡ get_or xs i x → sum_by w (take i xs) + w x ≤ sum_by w xs
sum_within w xs i x lt is = let next = sum_next w xs i x lt is in let front = sum_front w (i + 1) xs in omega (arith, next, front)
