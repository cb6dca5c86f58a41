-- What some of the steps come to lies between two numbers, and both are reached.
use Rattle.std.proofs.Common.{◌≡◌, ℕ, zero, suc, ℤ, pos, negsuc, ◌+ℤ◌, ◌≤ℤ◌, Bool, true, false, cond, List, [], ◌∷◌, refl, ap, arith}
use Rattle.std.proofs.lemmas.Int.{ints}
use Rattle.mt_model.specs.declared.counters.Count.{Count}
use Rattle.mt_model.specs.Escrow.{total, below, above, lowest, highest, chosen, IsAdmissible, HasRoom}

pub below_is : (d : ℤ) → (below d ≤ℤ pos 0) × (below d ≤ℤ d)
below_is (pos n) = (omega (arith, ints), omega (arith, ints))
below_is (negsuc n) = (omega (arith, ints), omega (arith, ints))

pub above_is : (d : ℤ) → (pos 0 ≤ℤ above d) × (d ≤ℤ above d)
above_is (pos n) = (omega (arith, ints), omega (arith, ints))
above_is (negsuc n) = (omega (arith, ints), omega (arith, ints))

pub lowest_below : (ds : List ℤ) → lowest ds ≤ℤ pos 0
lowest_below [] = omega (arith, ints)
lowest_below (d ∷ ds) = let rest = lowest_below ds in let part = below_is d in omega (arith, ints)

pub highest_above : (ds : List ℤ) → pos 0 ≤ℤ highest ds
highest_above [] = omega (arith, ints)
highest_above (d ∷ ds) = let rest = highest_above ds in let part = above_is d in omega (arith, ints)

pub total_between : (ds : List ℤ) → (lowest ds ≤ℤ total ds) × (total ds ≤ℤ highest ds)
total_between [] = (omega (arith, ints), omega (arith, ints))
total_between (d ∷ ds) =
    let rest = total_between ds in let down = below_is d in let up = above_is d in
    (omega (arith, ints), omega (arith, ints))

choice_between : (t : Bool) (d : ℤ) (ds es : List ℤ) → (lowest es ≤ℤ total ds) → (total ds ≤ℤ highest es)
    → (lowest (d ∷ es) ≤ℤ total (cond t (d ∷ ds) ds)) × (total (cond t (d ∷ ds) ds) ≤ℤ highest (d ∷ es))
choice_between true d ds es low high =
    let down = below_is d in let up = above_is d in (omega (arith, ints), omega (arith, ints))
choice_between false d ds es low high =
    let down = below_is d in let up = above_is d in (omega (arith, ints), omega (arith, ints))

pub chosen_between : (p : ℕ → Bool) (ds : List ℤ) → (lowest ds ≤ℤ total (chosen p ds)) × (total (chosen p ds) ≤ℤ highest ds)
chosen_between p [] = (omega (arith, ints), omega (arith, ints))
chosen_between p (d ∷ ds) =
    let rest = chosen_between (λ k. p (suc k)) ds in
    choice_between (p 0) d (chosen (λ k. p (suc k)) ds) ds rest.0 rest.1

-- ---- the choices that come to the two numbers

abbrev downs : List ℤ → ℕ → Bool
downs [] k = false
downs (pos n ∷ ds) zero = false
downs (negsuc n ∷ ds) zero = true
downs (pos n ∷ ds) (suc k) = downs ds k
downs (negsuc n ∷ ds) (suc k) = downs ds k

abbrev ups : List ℤ → ℕ → Bool
ups [] k = false
ups (pos n ∷ ds) zero = true
ups (negsuc n ∷ ds) zero = false
ups (pos n ∷ ds) (suc k) = ups ds k
ups (negsuc n ∷ ds) (suc k) = ups ds k

total-downs : (ds : List ℤ) → total (chosen (downs ds) ds) ≡ lowest ds
total-downs [] = refl
total-downs (pos n ∷ ds) = let rest = total-downs ds in omega (arith, ints, rest)
total-downs (negsuc n ∷ ds) = ap (λ z. negsuc n +ℤ z) (total-downs ds)

total-ups : (ds : List ℤ) → total (chosen (ups ds) ds) ≡ highest ds
total-ups [] = refl
total-ups (pos n ∷ ds) = ap (λ z. pos n +ℤ z) (total-ups ds)
total-ups (negsuc n ∷ ds) = let rest = total-ups ds in omega (arith, ints, rest)

-- ---- so the two numbers decide

pub admissible_from_room : (n : Count) (ds : List ℤ) → HasRoom n ds → IsAdmissible n ds
admissible_from_room n ds room p =
    let between = chosen_between p ds in let low = room.low in let high = room.high in
    record { not_under = omega (arith, ints); not_over = omega (arith, ints) }

pub room_from_admissible : (n : Count) (ds : List ℤ) → IsAdmissible n ds → HasRoom n ds
room_from_admissible n ds admissible = record {
  low = rw total-downs at (admissible (downs ds)).not_under;
  high = rw total-ups at (admissible (ups ds)).not_over;
}
