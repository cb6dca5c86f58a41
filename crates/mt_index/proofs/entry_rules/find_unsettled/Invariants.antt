use Rattle.std.proofs.Common.{◌<◌, ℕ}
use Rattle.mt_index.specs.Checks.{Settles}
use Rattle.mt_space.specs.PageLists.{bytes_of}
use Rattle.mt_index.proofs.entry_rules.find_unsettled.Given as goal

abbrev pub invariant-loop-number : goal.invariant-loop-number
invariant-loop-number l = (p : ℕ) → p < l.number → Settles (bytes_of l.pages) l.homes p
