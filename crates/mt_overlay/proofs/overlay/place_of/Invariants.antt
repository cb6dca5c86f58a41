use Rattle.std.proofs.Common.{◌≡◌, take, None}
use Rattle.mt_overlay.specs.Overlays.{copied}
use Rattle.mt_overlay.proofs.overlay.place_of.Given as goal

abbrev pub invariant-loop-i : goal.invariant-loop-i
invariant-loop-i l = copied (take l.i l.copies) l.page ≡ None
