use Rattle.std.proofs.Common.{◌<◌, ℕ}
use Rattle.mt_page_rules.specs.Checks.{AreListedAt}
use Rattle.mt_page_rules.proofs.page_rules.AllPages.has_listed.Given as goal

abbrev pub invariant-loop-slot : goal.invariant-loop-slot
invariant-loop-slot l = (s : ℕ) → s < l.slot → AreListedAt l.self.pages.items l.page s
