-- There are no more of a kind than transactions that live, where each is of another one.
use Rattle.std.proofs.Common.{◌≡◌, ◌≢◌, ℕ, suc, ◌<◌, ◌≤◌, ◌==◌, Bool, true, false, cond, List, [], ◌∷◌, Some, length, map, refl, sym, ap, ◌∙◌, arith}
use Rattle.std.specs.Prelude.{All, AllPairs, is_some}
use Rattle.std.proofs.lemmas.Bool.{eqb-true}
use Rattle.std.proofs.lemmas.List.Elements.{All-head, All-tail}
use Rattle.mt_index.proofs.Pigeons.{Distinct, short}
use Rattle.mt_index.specs.Maps.{Each}
use Rattle.mt_live.specs.Lives.{member_of}
use Rattle.mt_live.specs.Members.{Member}
use Rattle.mt_core.proofs.Lists.{pairs_head, pairs_tail}

-- the place of a transaction that lives
abbrev place_of : List Member → ℕ → ℕ
place_of [] t = 0
place_of (m ∷ ms) t = cond (m.number == t) 0 (suc (place_of ms t))

place_within : (ms : List Member) (t : ℕ) → is_some (member_of ms t) ≡ true → place_of ms t < length ms
place_within [] t there = absurd cc
place_within (m ∷ ms) t there = go (m.number == t) there (λ k. place_within ms t k)
  where
    go : (c : Bool) → is_some (cond c (Some m) (member_of ms t)) ≡ true → (is_some (member_of ms t) ≡ true → place_of ms t < length ms) → cond c 0 (suc (place_of ms t)) < suc (length ms)
    go true k rec = omega arith
    go false k rec = let less = rec k in omega (arith, less)

place_same : (ms : List Member) (t u : ℕ) → is_some (member_of ms t) ≡ true → is_some (member_of ms u) ≡ true → place_of ms t ≡ place_of ms u → t ≡ u
place_same [] t u there also same = absurd cc
place_same (m ∷ ms) t u there also same = go (m.number == t) refl (m.number == u) refl there also same (λ k l e. place_same ms t u k l e)
  where
    go : (a : Bool) → (m.number == t) ≡ a → (b : Bool) → (m.number == u) ≡ b → is_some (cond a (Some m) (member_of ms t)) ≡ true → is_some (cond b (Some m) (member_of ms u)) ≡ true
        → cond a 0 (suc (place_of ms t)) ≡ cond b 0 (suc (place_of ms u)) → (is_some (member_of ms t) ≡ true → is_some (member_of ms u) ≡ true → place_of ms t ≡ place_of ms u → t ≡ u) → t ≡ u
    go true p true q k l e rec = sym (eqb-true m.number t p) ∙ eqb-true m.number u q
    go true p false q k l e rec = absurd (omega (arith, e))
    go false p true q k l e rec = absurd (omega (arith, e))
    go false p false q k l e rec = rec k l (omega (arith, e))

module _ {X : Type 0} (f : X → ℕ) (ms : List Member) where
  places_within : (xs : List X) → All (λ (x : X). is_some (member_of ms (f x)) ≡ true) xs → Each (λ (n : ℕ). n < length ms) (map (λ (x : X). place_of ms (f x)) xs)
  places_within [] all = tt
  places_within (x ∷ xs) all = (place_within ms (f x) (All-head (λ (y : X). is_some (member_of ms (f y)) ≡ true) x xs all), places_within xs (All-tail (λ (y : X). is_some (member_of ms (f y)) ≡ true) x xs all))

  places_apart : (x : X) (xs : List X) → is_some (member_of ms (f x)) ≡ true → All (λ (y : X). is_some (member_of ms (f y)) ≡ true) xs → All (λ (y : X). f x ≢ f y) xs
      → Each (λ (n : ℕ). n ≢ place_of ms (f x)) (map (λ (y : X). place_of ms (f y)) xs)
  places_apart x [] there all apart = tt
  places_apart x (y ∷ ys) there all apart = (
    λ same. All-head (λ (z : X). f x ≢ f z) y ys apart (sym (place_same ms (f y) (f x) (All-head (λ (z : X). is_some (member_of ms (f z)) ≡ true) y ys all) there same)),
    places_apart x ys there (All-tail (λ (z : X). is_some (member_of ms (f z)) ≡ true) y ys all) (All-tail (λ (z : X). f x ≢ f z) y ys apart),
  )

  places_distinct : (xs : List X) → All (λ (x : X). is_some (member_of ms (f x)) ≡ true) xs → AllPairs (λ (x y : X). f x ≢ f y) xs → Distinct (map (λ (x : X). place_of ms (f x)) xs)
  places_distinct [] all pairs = tt
  places_distinct (x ∷ xs) all pairs =
      let rest = All-tail (λ (y : X). is_some (member_of ms (f y)) ≡ true) x xs all in (
        places_apart x xs (All-head (λ (y : X). is_some (member_of ms (f y)) ≡ true) x xs all) rest (pairs_head (λ (y z : X). f y ≢ f z) x xs pairs),
        places_distinct xs rest (pairs_tail (λ (y z : X). f y ≢ f z) x xs pairs),
      )

  length_mapped : (g : X → ℕ) (xs : List X) → length (map g xs) ≡ length xs
  length_mapped g [] = refl
  length_mapped g (x ∷ xs) = ap suc (length_mapped g xs)

  pub at_most : (xs : List X) → All (λ (x : X). is_some (member_of ms (f x)) ≡ true) xs → AllPairs (λ (x y : X). f x ≢ f y) xs → length xs ≤ length ms
  at_most xs all pairs =
      let few = short (length ms) (map (λ (x : X). place_of ms (f x)) xs) (places_within xs all) (places_distinct xs all pairs) in
      let same = length_mapped (λ (x : X). place_of ms (f x)) xs in omega (arith, few, same)
