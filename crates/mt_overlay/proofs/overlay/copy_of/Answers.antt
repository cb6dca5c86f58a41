use Rattle.mt_overlay.proofs.Overlaid.{copied_at}
use Rattle.mt_overlay.proofs.overlay.copy_of.Goals as goal

pub returns-in-Some-clause-some : goal.returns-in-Some-clause-some
returns-in-Some-clause-some c = copied_at c.args.copies.now c.args.page c.in-Some.i c.index-copies-i.result c.in-Some.ensures.some
