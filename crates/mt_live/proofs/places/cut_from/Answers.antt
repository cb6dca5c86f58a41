use Rattle.std.proofs.Common.{rules, not, ◌==◌, ◌||◌, nat_lt}
use Rattle.std.proofs.lemmas.Fn.{filter_same}
use Rattle.mt_live.specs.declared.places.Place.{Place}
use Rattle.mt_live.proofs.places.cut_from.Goals as goal

pub returns-clause-places : goal.returns-clause-places
returns-clause-places c =
    filter_same _ (λ (o : Place). not (o.txn == c.args.txn) || nat_lt o.index c.args.at) _ (λ o b f k. search rules) _ _ c.retain.ensures.filtered
