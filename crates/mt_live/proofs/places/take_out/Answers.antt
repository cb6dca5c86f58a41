use Rattle.std.proofs.Common.{rules, not, ◌==◌}
use Rattle.std.proofs.lemmas.Fn.{filter_same}
use Rattle.mt_live.specs.declared.places.Place.{Place}
use Rattle.mt_live.proofs.places.take_out.Goals as goal

pub returns-clause-places : goal.returns-clause-places
returns-clause-places c =
    filter_same _ (λ (o : Place). not (o.txn == c.args.txn)) _ (λ o b f k. search rules) _ _ c.retain.ensures.filtered
