use Rattle.mt_overlay.specs.Overlays.{copied}
use Rattle.mt_steps.proofs.copies.Copies.new.Goals as goal

pub invariant_of-result : goal.invariant_of-result
invariant_of-result c = c.new-2.ensures (copied c.new.result.items) c.args.total
