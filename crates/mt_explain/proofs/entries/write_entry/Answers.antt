use Rattle.std.proofs.Common.{◌∙◌}
use Rattle.mt_explain.proofs.HistoryLemmas.{not_zero}
use Rattle.mt_explain.proofs.entries.write_entry.Goals as goal

pub returns-else-get-eq0-clause-front : goal.returns-else-get-eq0-clause-front
returns-else-get-eq0-clause-front g c = rw c.in-Page.is (rw (not_zero c.in-Page.txn (λ is. c.if-get-eq0.false (c.get.ensures ∙ is))) c.write_own_change.ensures.front)
