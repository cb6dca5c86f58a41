use Rattle.mt_args.proofs.parsers.parser_of.Goals as goal

pub returns : goal.returns
returns c = c.with_arguments.ensures _ c.without_arguments.ensures
