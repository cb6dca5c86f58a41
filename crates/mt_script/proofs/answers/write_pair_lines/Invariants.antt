use Rattle.std.proofs.Common.{take}
use Rattle.std.specs.Io.KnownBytes.{Appends}
use Rattle.mt_script.specs.Answers.{pair_lines}
use Rattle.mt_script.proofs.answers.write_pair_lines.Given as goal

abbrev pub invariant-loop-row : goal.invariant-loop-row
invariant-loop-row g l = Appends (g.W.Write.contents l.initial.writer) (g.W.Write.contents l.writer) (pair_lines (take l.row-index l.rows))
