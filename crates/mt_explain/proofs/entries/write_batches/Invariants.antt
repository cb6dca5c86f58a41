use Rattle.std.proofs.Common.{take}
use Rattle.std.specs.Io.KnownBytes.{Appends}
use Rattle.mt_explain.specs.Explanations.{batch_lines}
use Rattle.mt_explain.specs.Listings.{numbered}
use Rattle.mt_explain.proofs.entries.write_batches.Given as goal

abbrev pub invariant-loop-index : goal.invariant-loop-index
invariant-loop-index g l = Appends (g.W.Write.contents l.initial.writer) (g.W.Write.contents l.writer) (numbered batch_lines 1 (take l.index l.batches))
