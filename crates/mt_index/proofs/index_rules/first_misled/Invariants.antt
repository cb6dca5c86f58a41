use Rattle.std.proofs.Common.{◌≡◌, ◌<◌, ℕ}
use Rattle.mt_space.specs.Kinds.{kind}
use Rattle.mt_index.specs.Checks.{HasNext}
use Rattle.mt_space.specs.PageLists.{bytes_of}
use Rattle.mt_index.proofs.index_rules.first_misled.Given as goal

abbrev pub invariant-loop-number : goal.invariant-loop-number
invariant-loop-number l = (p : ℕ) → p < l.number → kind (bytes_of l.pages) p ≡ 2 → HasNext (bytes_of l.pages) p
