-- The copies passed have their places.
use Rattle.mt_overlay.proofs.Placed.{IsPlacing}
use Rattle.mt_overlay.proofs.placed_copies.places_of.Given as goal

abbrev pub invariant-loop-i : goal.invariant-loop-i
invariant-loop-i l = IsPlacing l.copies l.places l.i
