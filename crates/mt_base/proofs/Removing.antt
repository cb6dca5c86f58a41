-- The last element that is a given one goes from a list.
use Rattle.std.proofs.Common.{◌≡◌, ◌≢◌, ℕ, suc, ◌+◌, ◌-◌, ◌<◌, Bool, List, [], ◌∷◌, ◌++◌, Contains, length, take, drop, remove, get_or, filter, refl, ap, sym, ◌∙◌, arith, length-append, length-drop, add-one, drop-cons}
use Rattle.std.proofs.lemmas.List.{take-append-drop, get_or-drop, append-nil}
use Rattle.std.proofs.lemmas.List.Elements.{All-contains_itself, All-filter, All-contains}
use Rattle.std.proofs.Math.Seq.{take-append_seam, drop-append_seam, drop-append-add}

pub parted : {A : Type 0} (xs : List A) (i : ℕ) (p : A) → i < length xs → get_or xs i p ≡ p → xs ≡ take i xs ++ p ∷ drop (suc i) xs
parted xs i p lt is =
    sym (take-append-drop i xs)
    ∙ ap (λ ys. take i xs ++ ys) (drop-cons xs i p lt ∙ ap (λ q. q ∷ drop (suc i) xs) is)

pub remove-middle : {A : Type 0} (front back : List A) (p : A) → remove (front ++ p ∷ back) (length front) ≡ front ++ back
remove-middle front back p =
    ap (λ xs. xs ++ drop (suc (length front)) (front ++ p ∷ back)) (take-append_seam front (p ∷ back))
    ∙ ap (λ ys. front ++ ys) (next (length front) ∙ drop-append-add front (p ∷ back) 1)
  where
    next : (n : ℕ) → drop (suc n) (front ++ p ∷ back) ≡ drop (n + 1) (front ++ p ∷ back)
    next n = rw add-one

middle : {A : Type 0} (front back : List A) (p d : A) → get_or (front ++ p ∷ back) (length front) d ≡ p
middle [] back p d = refl
middle (x ∷ front) back p d = middle front back p d

behind : {A : Type 0} (front back : List A) (p d : A) (k : ℕ) → get_or (front ++ p ∷ back) (length front + suc k) d ≡ get_or back k d
behind front back p d k =
    sym (get_or-drop (length front) (front ++ p ∷ back) (suc k) d)
    ∙ ap (λ xs. get_or xs (suc k) d) (drop-append_seam front (p ∷ back))

long : {A : Type 0} (front back : List A) (p : A) → length (front ++ p ∷ back) ≡ length front + suc (length back)
long front back p = length-append front (p ∷ back)

-- a list that ends in an element, cut at a place behind which it does not stand
pub ends : {A : Type 0} (xs ys front : List A) (p : A) → xs ++ p ∷ ys ≡ front ++ p ∷ [] → (Contains ys p → ⊥) → xs ++ ys ≡ front
ends xs [] front p is apart =
    append-nil xs ∙ (sym (take-append_seam xs (p ∷ [])) ∙ (ap (take (length xs)) is
    ∙ (ap (λ n. take n (front ++ p ∷ [])) same ∙ take-append_seam front (p ∷ []))))
  where
    same : length xs ≡ length front
    same = let a = long xs [] p in let b = long front [] p in let e = ap length is in omega arith
ends xs (y ∷ ys) front p is apart =
    absurd (apart (length ys, (let l : length ys < suc (length ys) = omega arith in l), at_end))
  where
    place : length xs + suc (length ys) ≡ length front
    place = let a = long xs (y ∷ ys) p in let b = long front [] p in let e = ap length is in omega arith

    at_end : get_or (y ∷ ys) (length ys) p ≡ p
    at_end =
        sym (behind xs (y ∷ ys) p p (length ys))
        ∙ (ap (λ zs. get_or zs (length xs + suc (length ys)) p) is
        ∙ (ap (λ n. get_or (front ++ p ∷ []) n p) place ∙ middle front [] p p))

-- the last place of an element
module _ {A : Type 0} (xs : List A) (p : A) (i : ℕ) (there : i < length xs) (is : get_or xs i p ≡ p) (last : (k : ℕ) → i < k → k < length xs → get_or xs k p ≢ p) where
  -- what stands behind it does not have the element
  pub none_behind : Contains (drop (suc i) xs) p → ⊥
  none_behind (k, lt, at) =
      last (suc i + k) (omega arith)
      (let n = length-drop (suc i) xs in omega arith)
      (sym (get_or-drop (suc i) xs k p) ∙ at)

  place_is : (front back : List A) → xs ≡ front ++ p ∷ back → (Contains back p → ⊥) → i ≡ length front
  place_is front back cut apart = same not_above not_below
    where
      not_below : i < length front → ⊥
      not_below lt = last (length front) lt (let n = long front back p in let e = ap length cut in omega arith) (ap (λ ys. get_or ys (length front) p) cut ∙ middle front back p p)

      not_above : length front < i → ⊥
      not_above lt = apart (i - suc (length front), inside, found)
        where
          sum : length front + suc (i - suc (length front)) ≡ i
          sum = omega arith

          inside : i - suc (length front) < length back
          inside = let n = long front back p in let e = ap length cut in let h = there in omega arith

          found : get_or back (i - suc (length front)) p ≡ p
          found = sym (behind front back p p (i - suc (length front))) ∙ (ap (λ n. get_or (front ++ p ∷ back) n p) sum ∙ (ap (λ ys. get_or ys i p) (sym cut) ∙ is))

      same : (length front < i → ⊥) → (i < length front → ⊥) → i ≡ length front
      same above below = omega arith

  -- the list without it
  pub removed_last : (front back : List A) → xs ≡ front ++ p ∷ back → (Contains back p → ⊥) → remove xs i ≡ front ++ back
  removed_last front back cut apart =
      ap (λ ys. remove ys i) cut ∙ (ap (λ n. remove (front ++ p ∷ back) n) (place_is front back cut apart) ∙ remove-middle front back p)

pub in_filter : {A : Type 0} (test : A → Bool) (xs : List A) (p : A) → Contains (filter test xs) p → Contains xs p
in_filter test xs p inside =
    All-contains (Contains xs) (filter test xs) p (All-filter test (Contains xs) xs (All-contains_itself xs)) inside
