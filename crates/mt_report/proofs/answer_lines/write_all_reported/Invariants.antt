use Rattle.std.proofs.Common.{take}
use Rattle.std.specs.Io.KnownBytes.{Appends}
use Rattle.mt_script.proofs.TextLemmas.{all_bytes}
use Rattle.mt_report.specs.AnswerLines.{reported_line}
use Rattle.mt_report.proofs.answer_lines.write_all_reported.Given as goal

abbrev pub invariant-loop-answer : goal.invariant-loop-answer
invariant-loop-answer g l = Appends (g.W.Write.contents l.initial.writer) (g.W.Write.contents l.writer) (all_bytes reported_line (take l.answer-index l.answers))
