use Rattle.std.proofs.Common.{◌<◌, ℕ, length}
use Rattle.mt_space.specs.PageLists.{bytes_of}
use Rattle.mt_space.specs.Kinds.{kind, CanBe}
use Rattle.mt_page_rules.proofs.page_rules.AllPages.has_map.Given as goal

abbrev pub invariant-loop-number : goal.invariant-loop-number
invariant-loop-number l = (p : ℕ) → p < l.number → CanBe (length l.self.pages.items) p (kind (bytes_of l.self.pages.items) p)
