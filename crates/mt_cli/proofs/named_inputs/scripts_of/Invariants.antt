use Rattle.std.proofs.Common.{◌≡◌, length, map, take, string_bytes}
use Rattle.mt_script.specs.Scripts.{lines_in}
use Rattle.mt_cli.proofs.ReadLemmas.{IsAt}
use Rattle.mt_cli.proofs.named_inputs.scripts_of.Given as goal

abbrev pub invariant-loop-name : goal.invariant-loop-name
invariant-loop-name g l =
    (length l.scripts.items ≡ l.name-index) × IsAt (g.F.Folder.files l.initial.folder) (g.I.Read.remaining l.initial.input) (map string_bytes (take l.name-index l.names)) (map lines_in l.scripts.items) (g.F.Folder.files l.folder) (g.I.Read.remaining l.input)
