-- The pages held where no operation is under way.
use Rattle.std.proofs.Common.{◌≡◌, ◌<◌, ⊎_elim, ℕ, List, [], ◌∷◌, refl, sym, ap, ◌∙◌, subst, arith}
use Rattle.std.specs.Prelude.{All}
use Rattle.mt_plock.specs.declared.guards.PageLock.{PageLock}
use Rattle.mt_space.specs.Changes.{PageBytes}
use Rattle.mt_steps.specs.Repeated.{Change, put_back}
use Rattle.mt_op.specs.World.{World, repeated_in, held_in, unfinished_in, IsCovered, IsWorld}

uncovered : (cs : List Change) → All (IsCovered []) cs → cs ≡ []
uncovered [] covered = refl
uncovered (c ∷ cs) covered = let (i, below, is) = covered 0 c (omega arith) in absurd (omega arith)

-- without a lock nothing is unfinished, so each page shows as it is held
pub idle_shows : (relations counters : ℕ) (w : World) → IsWorld relations counters w → w.locks ≡ [] → (p : ℕ) → p < w.total → w.present p ≡ held_in w p
idle_shows relations counters w h free p inside =
    let none : unfinished_in w ≡ [] = uncovered (unfinished_in w) (subst (λ (ls : List PageLock). All (IsCovered ls) (unfinished_in w)) free h.covered) in
    let same : held_in w ≡ (repeated_in w).pages = ap (λ (cs : List Change). put_back cs (repeated_in w).pages) none in
    ⊎_elim (λ is. is ∙ ap (λ (f : PageBytes). f p) (sym same)) (λ is. is) (h.shows p inside)
