use Rattle.std.proofs.Common.{◌≡◌, ◌<◌, ℕ, length}
use Rattle.mt_bucket.specs.Page.{IsBucket}
use Rattle.mt_space.specs.Kinds.{kind}
use Rattle.mt_space.specs.PageLists.{bytes_of}
use Rattle.mt_index.proofs.index_rules.first_malformed.Given as goal

abbrev pub invariant-loop-number : goal.invariant-loop-number
invariant-loop-number l = (p : ℕ) → p < l.number → kind (bytes_of l.pages) p ≡ 2 → IsBucket l.relations (length l.pages) (bytes_of l.pages p)
