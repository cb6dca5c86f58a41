use Rattle.std.proofs.Common.{◌≡◌, ℕ, length, subst, arith}
use Rattle.mt_space.specs.PageLists.{bytes_of}
use Rattle.mt_steps.proofs.Listed.{nothing_listed}
use Rattle.mt_steps.specs.Listed.{HasListed}
use Rattle.mt_restart.proofs.inspection.list_pages.Goals as goal

pub loop-number-init : goal.loop-number-init
loop-number-init c = nothing_listed (bytes_of c.args.pages.now) c.new-rows.result.items c.new-rows.ensures.items

pub loop-number-preserved : goal.loop-number-preserved
loop-number-preserved c = c.in_ok-list_page.ensures.listed c.loop-number.invariant

pub returns : goal.returns
returns c =
    let last : c.loop-number.number ≡ length c.args.pages.now = omega arith in
    record { listed = subst (λ (q : ℕ). HasListed (bytes_of c.args.pages.now) q c.loop-number.rows.items) last c.loop-number.invariant }
