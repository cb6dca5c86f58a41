-- The steps of two lists of adds, one behind the other, and what they come to.
use Rattle.std.proofs.Common.{◌≡◌, ℕ, ℤ, ◌+ℤ◌, ◌==◌, Bool, true, false, cond, List, [], ◌∷◌, ◌++◌, refl, ap, arith}
use Rattle.std.proofs.lemmas.Int.{ints}
use Rattle.mt_model.specs.declared.pending_add.Pending.{Pending}
use Rattle.mt_model.specs.Escrow.{total, lowest, highest}
use Rattle.mt_model.specs.Pending.{steps_at}

pub total-append : (ds es : List ℤ) → total (ds ++ es) ≡ total ds +ℤ total es
total-append [] es = omega (arith, ints)
total-append (d ∷ ds) es = let rest = total-append ds es in omega (arith, ints, rest)

pub lowest-append : (ds es : List ℤ) → lowest (ds ++ es) ≡ lowest ds +ℤ lowest es
lowest-append [] es = omega (arith, ints)
lowest-append (d ∷ ds) es = let rest = lowest-append ds es in omega (arith, ints, rest)

pub highest-append : (ds es : List ℤ) → highest (ds ++ es) ≡ highest ds +ℤ highest es
highest-append [] es = omega (arith, ints)
highest-append (d ∷ ds) es = let rest = highest-append ds es in omega (arith, ints, rest)

steps_step : (t : Bool) (d : ℤ) (ds es fs : List ℤ) → fs ≡ ds ++ es → cond t (d ∷ fs) fs ≡ cond t (d ∷ ds) ds ++ es
steps_step true d ds es fs is = ap (λ xs. d ∷ xs) is
steps_step false d ds es fs is = is

pub steps_at-append : (c : ℕ) (ps qs : List Pending) → steps_at c (ps ++ qs) ≡ steps_at c ps ++ steps_at c qs
steps_at-append c [] qs = refl
steps_at-append c (p ∷ ps) qs =
    steps_step (p.counter == c) p.step (steps_at c ps) (steps_at c qs) (steps_at c (ps ++ qs)) (steps_at-append c ps qs)
