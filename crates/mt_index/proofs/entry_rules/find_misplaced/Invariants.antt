use Rattle.std.proofs.Common.{length}
use Rattle.mt_index.specs.Checks.{holder_in}
use Rattle.mt_space.specs.PageLists.{bytes_of}
use Rattle.mt_index.proofs.Settled.{IsWalking}
use Rattle.mt_index.proofs.entry_rules.find_misplaced.Given as goal

abbrev pub invariant-loop-step : goal.invariant-loop-step
invariant-loop-step l = IsWalking (length l.pages) (bytes_of l.pages) l.bucket l.at l._step (holder_in l.holders)
