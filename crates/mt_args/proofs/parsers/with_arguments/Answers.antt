use Rattle.std.proofs.Common.{arith, subst, map}
use Rattle.std.proofs.lemmas.List.{take_all}
use Rattle.mt_args.specs.CommandLines.{Parses}
use Rattle.mt_args.specs.Tables.{rule_at, with_rules}
use Rattle.mt_args.proofs.TableLemmas.{argument_more}
use Rattle.mt_args.proofs.parsers.with_arguments.Goals as goal

pub loop-argument-preserved : goal.loop-argument-preserved
loop-argument-preserved c = λ app before.
    argument_more app c.args.arguments.now c.loop-argument.argument-index _ _ _ _ (omega arith) (c.loop-argument.invariant app before) c.argument_of.ensures c.in_ok-parser.ensures

pub returns : goal.returns
returns c = λ app before.
    subst (λ all. Parses (with_rules app (map rule_at all)) c.loop-argument.parser) (take_all c.loop-argument.argument-index c.args.arguments.now (omega arith)) (c.loop-argument.invariant app before)
