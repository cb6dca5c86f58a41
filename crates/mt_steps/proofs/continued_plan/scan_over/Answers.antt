use Rattle.std.proofs.Common.{ℕ, subst, sym}
use Rattle.mt_steps.specs.Acts.{HasGood}
use Rattle.mt_overlay.specs.Overlays.{copied}
use Rattle.mt_steps.specs.Planners.{PlansScan}
use Rattle.mt_steps.specs.Scanned.{IsScannedTo}
use Rattle.mt_overlay.specs.declared.page_copies.PageCopies.{PageCopies}
use Rattle.mt_steps.proofs.continued_plan.scan_over.Goals as goal

pub scan-requires-clause-good : goal.scan-requires-clause-good
scan-requires-clause-good c = subst (λ (x : PageCopies). ∥ ((relations : ℕ) × HasGood (copied x.list.items) relations x.total) ∥₁) (sym c.new-placed.ensures.copies) c.requires.good

pub scan-requires-clause-so_far : goal.scan-requires-clause-so_far
scan-requires-clause-so_far c = subst (λ (x : PageCopies). IsScannedTo (copied x.list.items) x.total c.args.progress.now) (sym c.new-placed.ensures.copies) c.requires.so_far

pub returns-clause-plans : goal.returns-clause-plans
returns-clause-plans c = subst (λ (x : PageCopies). PlansScan (copied x.list.items) x.total c.args.relation c.scan.result) c.new-placed.ensures.copies c.scan.ensures.plans

pub returns-clause-so_far : goal.returns-clause-so_far
returns-clause-so_far c = subst (λ (x : PageCopies). IsScannedTo (copied x.list.items) x.total c.scan.new.progress) c.new-placed.ensures.copies c.scan.ensures.so_far
