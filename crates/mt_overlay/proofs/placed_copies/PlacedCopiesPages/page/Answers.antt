use Rattle.std.proofs.Common.{◌≡◌, ◌∙◌, ℕ, Some, subst, sym, ap}
use Rattle.mt_overlay.specs.Overlays.{copied, IsCopyAt}
use Rattle.mt_overlay.specs.declared.overlay.PageCopy.{PageCopy}
use Rattle.mt_overlay.proofs.Overlaid.{copied_at}
use Rattle.mt_overlay.proofs.placed_copies.PlacedCopiesPages.page.Goals as goal

pub returns-then-self-at-clause-some : goal.returns-then-self-at-clause-some
returns-then-self-at-clause-some c =
    let at = subst (IsCopyAt c.args.self.now.copies.now.list.items c.from-at.result) (sym c.from.ensures) (c.requires.sound.1 c.from-at.result c.if-at-lt4000.true c.if-self-at.true) in
    let page : c.from-at.result ≡ c.args.page = c.from-at.ensures ∙ c.get.ensures in
    ap (λ (p : ℕ). copied c.args.self.now.copies.now.list.items p) (sym page)
    ∙ copied_at c.args.self.now.copies.now.list.items c.from-at.result c.from.result c.index.result.now at
    ∙ ap (λ (x : PageCopy). Some x.bytes) (sym c.index.ensures)
