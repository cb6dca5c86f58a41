use Rattle.std.proofs.Common.{◌≡◌, ℕ, length}
use Rattle.mt_steps.specs.Acts.{InGood}
use Rattle.mt_steps.proofs.ScanRows.{AreUnder}
use Rattle.mt_steps.proofs.scan_plan.rows_named.Given as goal

abbrev pub invariant-loop-name : goal.invariant-loop-name
invariant-loop-name g l = record {
  many : length l.rows.items ≡ l.name-index;
  under : (relations : ℕ) → InGood (g.V.Pages.at_hand l.views) relations (g.V.Pages.total l.views) (λ pages m. AreUnder pages l.names l.rows.items);
}
