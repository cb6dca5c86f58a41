use Rattle.std.proofs.Common.{◌<◌, ℕ}
use Rattle.mt_page_rules.specs.Checks.{IsRecordPage}
use Rattle.mt_page_rules.proofs.page_rules.AllPages.first_malformed.Given as goal

abbrev pub invariant-loop-number : goal.invariant-loop-number
invariant-loop-number l = (p : ℕ) → p < l.number → IsRecordPage l.self.format l.self.pages.items l.relations p
