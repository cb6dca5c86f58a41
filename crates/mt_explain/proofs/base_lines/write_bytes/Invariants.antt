use Rattle.std.proofs.Common.{take}
use Rattle.std.specs.Io.KnownBytes.{Appends}
use Rattle.mt_script.proofs.TextLemmas.{all_bytes}
use Rattle.mt_explain.specs.Listings.{byte_text}
use Rattle.mt_explain.proofs.base_lines.write_bytes.Given as goal

abbrev pub invariant-loop-byte : goal.invariant-loop-byte
invariant-loop-byte g l = Appends (g.W.Write.contents l.initial.writer) (g.W.Write.contents l.writer) (all_bytes byte_text (take l.byte-index l.bytes))
