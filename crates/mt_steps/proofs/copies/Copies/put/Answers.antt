use Rattle.std.proofs.Common.{ℕ, List, Option, [], ◌∷◌, ◌∙◌, ap}
use Rattle.mt_overlay.specs.Overlays.{copied, or_below}
use Rattle.mt_overlay.specs.declared.overlay.PageCopy.{PageCopy}
use Rattle.mt_index.proofs.Bucketwise.{gathered_still}
use Rattle.mt_overlay.proofs.Overlaid.{copied_append}
use Rattle.mt_steps.proofs.copies.Copies.put.Goals as goal

pub invariant_of-self : goal.invariant_of-self
invariant_of-self c =
    let copy : PageCopy = record { page = c.args.page; bytes = c.args.bytes.now } in
    gathered_still (copied c.self.inside.pages.list.items) (copied c.push_reserved.new.self.items) c.self.inside.pages.total c.self.inside.scan.relation c.self.inside.scan.gathering
    (λ p bytes is. ap (λ (cs : List PageCopy). copied cs p) c.push_reserved.ensures.items ∙ copied_append c.self.inside.pages.list.items (copy ∷ []) p ∙ ap (λ (o : Option (List ℕ)). or_below o (copied (copy ∷ []) p)) is)
    c.self.invariant
