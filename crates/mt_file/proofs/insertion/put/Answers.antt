use Rattle.std.proofs.Common.{ℕ, Option, subst}
use Rattle.mt_space.specs.Changes.{PageBytes}
use Rattle.mt_file.specs.Plans.{IsReady}
use Rattle.mt_file.proofs.insertion.put.Goals as goal

pub put_into-requires-clause-ready : goal.put_into-requires-clause-ready
put_into-requires-clause-ready g c = subst (λ (room : Option ℕ). ∥ ((pages : PageBytes) × IsReady (g.V.Pages.at_hand c.args.views.now) room pages) ∥₁) c.in-Some.is c.requires.ready
