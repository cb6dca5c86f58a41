use Rattle.std.proofs.Common.{◌≡◌, arith, subst, map}
use Rattle.std.proofs.lemmas.List.{take_all}
use Rattle.clap.specs.Words.{app_of}
use Rattle.mt_args.specs.Tables.{top_at, with_subcommands}
use Rattle.mt_args.proofs.TableLemmas.{command_more}
use Rattle.mt_args.proofs.parsers.with_commands.Goals as goal

pub loop-entry-preserved : goal.loop-entry-preserved
loop-entry-preserved c = λ app is.
    command_more app c.args.entries.now c.loop-entry.entry-index _ _ _ _ (omega arith) (c.loop-entry.invariant app is) c.in_ok-command.ensures c.in_ok-parser.ensures

pub returns : goal.returns
returns c = λ app is.
    subst (λ all. app_of c.loop-entry.parser ≡ with_subcommands app (map top_at all)) (take_all c.loop-entry.entry-index c.args.entries.now (omega arith)) (c.loop-entry.invariant app is)
