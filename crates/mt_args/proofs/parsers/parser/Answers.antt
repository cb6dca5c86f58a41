use Rattle.std.proofs.Common.{◌∙◌}
use Rattle.mt_args.specs.CommandLines.{bare}
use Rattle.mt_args.proofs.parsers.parser.Goals as goal

pub returns : goal.returns
returns c = c.with_commands.ensures bare (c.in_ok-program.ensures ∙ c.bare.ensures)
