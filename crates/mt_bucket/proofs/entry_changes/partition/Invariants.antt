use Rattle.std.proofs.Common.{ℕ}
use Rattle.mt_bucket.specs.Page.{entries_from, goes_over, IsBucket, KeepsBucket}
use Rattle.mt_bucket.specs.Steps.{Dealt}
use Rattle.mt_bucket.proofs.entry_changes.partition.Given as goal

abbrev pub invariant-loop-i : goal.invariant-loop-i
invariant-loop-i l = Dealt (goes_over l.bit) (entries_from l.copy 8 l.i) l.i l.copy l.page l.initial.to l.to
    × (KeepsBucket l.copy l.page
    × ((r p : ℕ) → IsBucket r p l.copy → IsBucket r p l.initial.to → IsBucket r p l.to))
