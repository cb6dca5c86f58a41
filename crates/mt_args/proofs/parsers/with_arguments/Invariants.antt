use Rattle.std.proofs.Common.{map, take}
use Rattle.clap.specs.Words.{App}
use Rattle.mt_args.specs.CommandLines.{Parses}
use Rattle.mt_args.specs.Tables.{rule_at, with_rules}
use Rattle.mt_args.proofs.parsers.with_arguments.Given as goal

abbrev pub invariant-loop-argument : goal.invariant-loop-argument
invariant-loop-argument l = (app : App) → Parses app l.initial.parser → Parses (with_rules app (map rule_at (take l.argument-index l.arguments))) l.parser
