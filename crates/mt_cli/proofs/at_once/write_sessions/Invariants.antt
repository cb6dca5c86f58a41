use Rattle.std.proofs.Common.{take}
use Rattle.std.specs.Io.KnownBytes.{Appends}
use Rattle.mt_cli.specs.Serves.{texts_in_order}
use Rattle.mt_cli.proofs.at_once.write_sessions.Given as goal

abbrev pub invariant-loop-place : goal.invariant-loop-place
invariant-loop-place g l = Appends (g.W.Write.contents l.initial.writer) (g.W.Write.contents l.writer) (texts_in_order (take l.place l.transcripts))
