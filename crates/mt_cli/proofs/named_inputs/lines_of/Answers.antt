use Rattle.std.proofs.Common.{◌≡◌, ◌∙◌, ap, option_map}
use Rattle.mt_cli.specs.Reads.{held_by, source_of}
use Rattle.mt_cli.proofs.ReadLemmas.{held_by_file}
use Rattle.mt_cli.proofs.named_inputs.lines_of.Goals as goal

pub returns-clause-lines : goal.returns-clause-lines
returns-clause-lines g c =
    let files = g.F.Folder.files c.args.folder.now in
    let input = g.I.Read.remaining c.args.input.now in
    let name = option_map (λ n. n.now) c.args.name in
    let source : held_by files (option_map (λ n. n.now) c.file_named.result) input ≡ source_of files name input = ap (λ f. held_by files f input) c.file_named.ensures ∙ held_by_file files name input in
    rw source at c.lines_from.ensures.lines
