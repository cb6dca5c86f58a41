-- Which adds to a counter are admitted while others are pending (O'Neil 1986).
use Rattle.std.specs.Prelude.{ℕ, suc, ℤ, pos, negsuc, ◌+ℤ◌, ◌≤ℤ◌, Bool, cond, List, [], ◌∷◌}
use Rattle.mt_model.specs.declared.counters.Count.{Count}
use Rattle.mt_model.specs.Model.{IsInBounds, moved}

-- the sum of the steps
abbrev pub total : List ℤ → ℤ
total [] = pos 0
total (d ∷ ds) = d +ℤ total ds

-- the steps at the places that a test picks, so that each counts singly
abbrev pub chosen : (ℕ → Bool) → List ℤ → List ℤ
chosen p [] = []
chosen p (d ∷ ds) = cond (p 0) (d ∷ chosen (λ k. p (suc k)) ds) (chosen (λ k. p (suc k)) ds)

-- the counter stays in its bounds whichever of the steps are made
abbrev pub IsAdmissible : Count → List ℤ → Type 0
IsAdmissible n ds = (p : ℕ → Bool) → IsInBounds (moved n (total (chosen p ds)))

-- a step's part below zero, and its part above
abbrev pub below : ℤ → ℤ
below (pos n) = pos 0
below (negsuc n) = negsuc n

abbrev pub above : ℤ → ℤ
above (pos n) = pos n
above (negsuc n) = pos 0

-- the least and the most that some of the steps come to: those down, and those up
abbrev pub lowest : List ℤ → ℤ
lowest [] = pos 0
lowest (d ∷ ds) = below d +ℤ lowest ds

abbrev pub highest : List ℤ → ℤ
highest [] = pos 0
highest (d ∷ ds) = above d +ℤ highest ds

-- the counter stays in its bounds with each of these two
pub record HasRoom (n : Count) (ds : List ℤ) : Type 0 where
  pub low : n.low ≤ℤ (n.number +ℤ lowest ds)
  pub high : (n.number +ℤ highest ds) ≤ℤ n.high
