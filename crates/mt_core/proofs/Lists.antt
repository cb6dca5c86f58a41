-- Lists of which one element changes or goes.
use Rattle.std.proofs.Common.{◌≡◌, ◌≢◌, ◌⊎◌, ⊎_elim, ℕ, suc, ◌<◌, ◌≤◌, ◌+◌, List, ◌∷◌, length, get_or, set, sym, ap, ◌∙◌, subst, arith}
use Rattle.std.specs.Prelude.{All, AllPairs}
use Rattle.std.specs.List.{remove}
use Rattle.std.proofs.lemmas.Bool.{cases_eq, cases_lt, cases_order}
use Rattle.std.proofs.lemmas.List.{length-set, get_or-set_same, get_or-set_other, get_or_read}
use Rattle.std.proofs.lemmas.List.Edits.{length-remove, get_or-remove_below, get_or-remove_above}

module _ {X : Type 0} where
  -- one element is another, and the rest keep what they have, though of another kind
  pub all_set : (P : X → Type 0) (xs : List X) (i : ℕ) (y : X) → i < length xs → P y → ((k : ℕ) (d : X) → k < length xs → k ≢ i → P (get_or xs k d)) → All P (set xs i y)
  all_set P xs i y within here others k d lt =
      let len = length-set xs i y in
      let less : k < length xs = omega (arith, lt, len) in
      ⊎_elim (λ (same : k ≡ i). subst (λ (j : ℕ). P (get_or (set xs i y) j d)) (sym same) (subst P (sym (get_or-set_same xs i y d within)) here))
      (λ (apart : k ≡ i → ⊥). subst P (sym (get_or-set_other xs i k y d apart)) (others k d less apart)) (cases_eq k i)

  pub all_remove : (P : X → Type 0) (xs : List X) (i : ℕ) → i < length xs → ((k : ℕ) (d : X) → k < length xs → k ≢ i → P (get_or xs k d)) → All P (remove xs i)
  all_remove P xs i within others k d lt =
      let len = length-remove xs i within in
      ⊎_elim (λ (below : k < i). let less : k < length xs = omega (arith, within) in let apart : k ≢ i = omega arith in subst P (sym (get_or-remove_below xs i d k below within)) (others k d less apart))
      (λ (above : i ≤ k). let less : k + 1 < length xs = omega (arith, lt, len) in let apart : k + 1 ≢ i = omega arith in subst P (sym (get_or-remove_above xs i d k above within)) (others (k + 1) d less apart)) (cases_lt k i)

  -- two different places
  pub pair_at : (R : X → X → Type 0) (xs : List X) → ((x y : X) → R x y → R y x) → AllPairs R xs → (i j : ℕ) (d : X) → i < length xs → j < length xs → j ≢ i → R (get_or xs i d) (get_or xs j d)
  pair_at R xs flips pairs i j d within there apart =
      ⊎_elim (λ (same : j ≡ i). absurd (apart same))
      (λ (o : (j < i) ⊎ (i < j)). ⊎_elim (λ (below : j < i). flips (get_or xs j d) (get_or xs i d) (pairs j i d below within)) (λ (above : i < j). pairs i j d above there) o) (cases_order j i)

  pub pairs_head : (R : X → X → Type 0) (x : X) (xs : List X) → AllPairs R (x ∷ xs) → All (R x) xs
  pairs_head R x xs pairs k d lt = pairs 0 (suc k) d (omega arith) (omega (arith, lt))

  pub pairs_tail : (R : X → X → Type 0) (x : X) (xs : List X) → AllPairs R (x ∷ xs) → AllPairs R xs
  pairs_tail R x xs pairs i j d less within = pairs (suc i) (suc j) d (omega (arith, less)) (omega (arith, within))

  -- an element that is as the old one, for a relation that does not see the change
  pub pairs_set : (R : X → X → Type 0) (xs : List X) (i : ℕ) (x y : X) → i < length xs → x ≡ get_or xs i x → ((z : X) → R x z → R y z) → ((z : X) → R z x → R z y) → AllPairs R xs → AllPairs R (set xs i y)
  pairs_set R xs i x y within there left right pairs j k d less lt =
      let len = length-set xs i y in
      let in_j : j < length xs = omega (arith, lt, len, less) in
      let in_k : k < length xs = omega (arith, lt, len) in
      ⊎_elim (λ (same : j ≡ i).
      let apart : k ≢ i = omega (arith, same) in
      let was : R x (get_or xs k d) = subst (λ (z : X). R z (get_or xs k d)) (ap (λ (m : ℕ). get_or xs m d) same ∙ sym (get_or_read xs i x within there d)) (pairs j k d less in_k) in
      let at_j : get_or (set xs i y) j d ≡ y = ap (λ (m : ℕ). get_or (set xs i y) m d) same ∙ get_or-set_same xs i y d within in
      subst (λ (z : X). R z (get_or (set xs i y) k d)) (sym at_j) (subst (R y) (sym (get_or-set_other xs i k y d apart)) (left (get_or xs k d) was)))
      (λ (apart_j : j ≡ i → ⊥).
      subst (λ (z : X). R z (get_or (set xs i y) k d)) (sym (get_or-set_other xs i j y d apart_j))
      (⊎_elim (λ (same : k ≡ i).
      let was : R (get_or xs j d) x = subst (R (get_or xs j d)) (ap (λ (m : ℕ). get_or xs m d) same ∙ sym (get_or_read xs i x within there d)) (pairs j k d less in_k) in
      let at_k : get_or (set xs i y) k d ≡ y = ap (λ (m : ℕ). get_or (set xs i y) m d) same ∙ get_or-set_same xs i y d within in
      subst (R (get_or xs j d)) (sym at_k) (right (get_or xs j d) was))
      (λ (apart_k : k ≡ i → ⊥). subst (R (get_or xs j d)) (sym (get_or-set_other xs i k y d apart_k)) (pairs j k d less in_k)) (cases_eq k i)))
      (cases_eq j i)
