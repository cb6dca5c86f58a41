use Rattle.std.proofs.Common.{◌<◌, ℕ}
use Rattle.mt_index.specs.Checks.{entry_at}
use Rattle.mt_space.specs.PageLists.{bytes_of}
use Rattle.mt_page_rules.specs.Checks.{IsNamedWell}
use Rattle.mt_page_rules.proofs.page_rules.AllPages.names_records.Given as goal

abbrev pub invariant-loop-i : goal.invariant-loop-i
invariant-loop-i l = (j : ℕ) → j < l.i → IsNamedWell l.self.pages.items (entry_at (bytes_of l.self.pages.items l.page) j).relation (entry_at (bytes_of l.self.pages.items l.page) j).key
