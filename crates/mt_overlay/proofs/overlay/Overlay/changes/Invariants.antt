use Rattle.std.proofs.Common.{take}
use Rattle.mt_overlay.specs.Overlays.{ComeTo}
use Rattle.mt_overlay.proofs.overlay.Overlay.changes.Given as goal

abbrev pub invariant-loop-copy : goal.invariant-loop-copy
invariant-loop-copy g l = ComeTo (g.V.Pages.at_hand l.self.views.now) (take l.copy-index l.self.copies.items) l.changes.list.items
