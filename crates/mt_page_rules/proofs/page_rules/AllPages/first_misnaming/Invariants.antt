use Rattle.std.proofs.Common.{◌<◌, ℕ}
use Rattle.mt_page_rules.specs.Checks.{NamesRecords}
use Rattle.mt_page_rules.proofs.page_rules.AllPages.first_misnaming.Given as goal

abbrev pub invariant-loop-number : goal.invariant-loop-number
invariant-loop-number l = (q : ℕ) → q < l.number → NamesRecords l.self.pages.items q
