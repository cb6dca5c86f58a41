-- Rows in order, and what is under a key in them.
use Rattle.std.specs.Prelude.{ℕ, ◌≡◌, ◌≢◌, ◌==◌, ◌&&◌, ◌<◌, ◌≤◌, Bool, cond, List, [], ◌∷◌, Option, Some, None, Result, MatchResult, length, bytes_eq, nat_eq, AllPairs}
use Rattle.std.specs.Ordering.{on, eq_of_both}
use Rattle.std.specs.Cmp.{IsEquivalence, and_equiv, on_equiv, nat_eq_equiv}
use Rattle.std.specs.declared.cmp.Ordering.{Ordering}
use Rattle.std.specs.declared.cmp.Ordering.TheVariants.{Less, Equal, Greater}
use Rattle.std.specs.Ordering.{nat_cmp, ordering_then}
use Rattle.std.specs.Cmp.Lexicographic.{slice_cmp, nat_list_eq_equiv}
use Rattle.std.specs.List.{AllWithin, HoldsAt}
use Rattle.mt_rows.specs.declared.rows.Row.{Row}

-- the order of two keys: by relation, then by bytes
abbrev pub key_order : ℕ → List ℕ → ℕ → List ℕ → Ordering
key_order r k s l = ordering_then (nat_cmp r s) (slice_cmp nat_cmp k l)

abbrev pub row_order : Row → Row → Ordering
row_order x y = key_order x.relation x.key y.relation y.key

-- the same key and the same value
abbrev pub same_row : Row → Row → Bool
same_row = eq_of_both
    (eq_of_both (on (λ (x : Row). x.relation) nat_eq) (on (λ (x : Row). x.key) bytes_eq))
    (on (λ (x : Row). x.value) bytes_eq)

pub same_row_equiv : IsEquivalence same_row
same_row_equiv = and_equiv
    (and_equiv (on_equiv (λ (x : Row). x.relation) nat_eq_equiv) (on_equiv (λ (x : Row). x.key) nat_list_eq_equiv))
    (on_equiv (λ (x : Row). x.value) nat_list_eq_equiv)

-- each row comes before all later ones, so that no key stands twice
abbrev pub IsOrdered : List Row → Type 0
IsOrdered xs = AllPairs (λ x y. row_order x y ≡ Less) xs

-- no key stands twice, in any order
abbrev pub AreKeysOnce : List Row → Type 0
AreKeysOnce xs = AllPairs (λ x y. row_order x y ≢ Equal) xs

-- a row has this key
abbrev pub is_at : ℕ → List ℕ → Row → Bool
is_at r k x = (x.relation == r) && bytes_eq x.key k

-- the value under a key
abbrev pub value_at : List Row → ℕ → List ℕ → Option (List ℕ)
value_at [] r k = None
value_at (x ∷ xs) r k = cond (is_at r k x) (Some x.value) (value_at xs r k)

-- a row of the key, or where one would stand
abbrev pub IsPlace : List Row → ℕ → List ℕ → Result ℕ ℕ → Type 0
IsPlace xs r k place = MatchResult place
    (λ i. (i < length xs) × HoldsAt (λ x. key_order x.relation x.key r k ≡ Equal) xs i)
    (λ i. (i ≤ length xs)
    × AllWithin (λ x. key_order x.relation x.key r k ≡ Less) xs 0 i
    × AllWithin (λ x. key_order x.relation x.key r k ≡ Greater) xs i (length xs))

-- ---- what is under a key, after an operation on it

abbrev pub inserted : List ℕ → Option (List ℕ) → Option (List ℕ)
inserted v None = Some v
inserted v (Some old) = Some old

abbrev pub updated : List ℕ → Option (List ℕ) → Option (List ℕ)
updated v None = None
updated v (Some old) = Some v

abbrev pub deleted : Option (List ℕ) → Option (List ℕ)
deleted row = None

-- the rows with what is under one key altered
abbrev pub IsAltered : List Row → List Row → ℕ → List ℕ → (Option (List ℕ) → Option (List ℕ)) → Type 0
IsAltered old new r k f =
    (s : ℕ) (l : List ℕ) → value_at new s l ≡ cond ((r == s) && bytes_eq k l) (f (value_at old s l)) (value_at old s l)
