use Rattle.std.proofs.Common.{take}
use Rattle.std.specs.Io.KnownBytes.{Appends}
use Rattle.mt_script.proofs.TextLemmas.{all_bytes}
use Rattle.mt_device_commands.specs.Checks.{figure_line}
use Rattle.mt_device_commands.proofs.check_command.write_figures.Given as goal

abbrev pub invariant-loop-word : goal.invariant-loop-word
invariant-loop-word g l = Appends (g.W.Write.contents l.initial.writer) (g.W.Write.contents l.writer) (all_bytes figure_line (take l.word-index l.figures))
