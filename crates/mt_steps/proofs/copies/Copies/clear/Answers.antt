use Rattle.mt_overlay.specs.Overlays.{copied}
use Rattle.mt_steps.proofs.copies.Copies.clear.Goals as goal

pub invariant_of-self : goal.invariant_of-self
invariant_of-self c = c.clear-2.ensures (copied c.clear.new.self.items) c.self.inside.pages.total
