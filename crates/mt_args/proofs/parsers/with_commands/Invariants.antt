use Rattle.std.proofs.Common.{◌≡◌, map, take}
use Rattle.clap.specs.Words.{App, app_of}
use Rattle.mt_args.specs.Tables.{top_at, with_subcommands}
use Rattle.mt_args.proofs.parsers.with_commands.Given as goal

abbrev pub invariant-loop-entry : goal.invariant-loop-entry
invariant-loop-entry l = (app : App) → app_of l.initial.parser ≡ app → app_of l.parser ≡ with_subcommands app (map top_at (take l.entry-index l.entries))
