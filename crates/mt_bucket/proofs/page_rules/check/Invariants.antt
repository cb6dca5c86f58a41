use Rattle.std.proofs.Common.{◌+◌, ◌*◌, ◌<◌, ℕ}
use Rattle.mt_bucket.specs.Page.{IsCell}
use Rattle.mt_bucket.proofs.page_rules.check.Given as goal

abbrev pub invariant-loop-i : goal.invariant-loop-i
invariant-loop-i l = (k : ℕ) → k < l.i → IsCell l.relations l.pages l.page (8 + 70 * k)
