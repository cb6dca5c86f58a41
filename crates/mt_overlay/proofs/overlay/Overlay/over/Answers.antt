use mathlib.Core.Logic.{∥∥₁_map}
use Rattle.std.proofs.Common.{List, sym, subst}
use Rattle.mt_space.specs.Changes.{Agrees}
use Rattle.mt_overlay.specs.Overlays.{shown}
use Rattle.mt_overlay.specs.declared.overlay.PageCopy.{PageCopy}
use Rattle.mt_overlay.proofs.overlay.Overlay.over.Goals as goal

pub apply-requires-clause-short : goal.apply-requires-clause-short
apply-requires-clause-short g c = ∥∥₁_map c.requires.short (λ (pages, agrees, short).
    let at_first : Agrees (shown c.new-overlay.result.copies.items (g.V.Pages.at_hand c.new-overlay.result.views.now)) pages = subst (λ (l : List PageCopy). Agrees (shown l (g.V.Pages.at_hand c.new-overlay.result.views.now)) pages) (sym c.new-overlay.ensures.none)
    (subst (λ v. Agrees (g.V.Pages.at_hand v) pages) (sym c.new-overlay.ensures.views) agrees) in
    (pages, at_first, short))
