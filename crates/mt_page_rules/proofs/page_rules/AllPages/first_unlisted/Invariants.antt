use Rattle.std.proofs.Common.{◌<◌, ℕ}
use Rattle.mt_page_rules.specs.Checks.{HasListed}
use Rattle.mt_page_rules.proofs.page_rules.AllPages.first_unlisted.Given as goal

abbrev pub invariant-loop-number : goal.invariant-loop-number
invariant-loop-number l = (p : ℕ) → p < l.number → HasListed l.self.pages.items p
