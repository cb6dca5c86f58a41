use Rattle.std.proofs.Common.{take}
use Rattle.std.specs.Io.KnownBytes.{Appends}
use Rattle.mt_script.proofs.TextLemmas.{all_bytes}
use Rattle.mt_report.specs.AnswerLines.{name_text}
use Rattle.mt_report.proofs.answer_lines.write_names.Given as goal

abbrev pub invariant-loop-name : goal.invariant-loop-name
invariant-loop-name g l = Appends (g.W.Write.contents l.initial.writer) (g.W.Write.contents l.writer) (all_bytes name_text (take l.name-index l.names))
