use Rattle.std.proofs.Common.{take}
use Rattle.std.specs.Io.KnownBytes.{Appends}
use Rattle.mt_script.proofs.TextLemmas.{all_bytes}
use Rattle.mt_explain.specs.Explanations.{put_back_line}
use Rattle.mt_explain.proofs.entries.write_all_put_back.Given as goal

abbrev pub invariant-loop-operation : goal.invariant-loop-operation
invariant-loop-operation g l = Appends (g.W.Write.contents l.initial.writer) (g.W.Write.contents l.writer) (all_bytes put_back_line (take l.operation-index l.operations))
