use Rattle.std.proofs.Common.{◌≡◌, ◌≢◌, ◌<◌, ℕ, None, true, false, get_or}
use Rattle.mt_steps.specs.Scanned.{AreReady}
use Rattle.mt_steps.proofs.scan_plan.first_missing.Given as goal

abbrev pub invariant-loop-i : goal.invariant-loop-i
invariant-loop-i g l = record {
  ready : AreReady (g.V.Pages.at_hand l.views) l.names l.initial.ready l.i;
  seen : (p : ℕ) → p < 4000 → get_or l.seen p false ≡ true → g.V.Pages.at_hand l.views p ≢ None;
  same : l.ready ≡ l.initial.ready;
}
