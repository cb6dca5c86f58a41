use Rattle.std.proofs.Common.{sym, ◌∙◌}
use Rattle.mt_live.proofs.Wells.{first_from, must_be_there}
use Rattle.mt_live.proofs.live.place_in.Goals as goal

pub unreachable-requires : goal.unreachable-requires
unreachable-requires c = must_be_there c.args.transactions.now c.args.txn (sym c.place_of.ensures ∙ c.in_default.is) c.requires.there

pub returns : goal.returns
returns c = first_from c.args.transactions.now c.args.txn c.in-Some.place (sym c.place_of.ensures ∙ c.in-Some.is)
