use Rattle.std.proofs.lemmas.List.Elements.{All-set}
use Rattle.mt_model.specs.Tables.{IsLimited}
use Rattle.mt_model.proofs.counters.Counters.add.Goals as goal

pub invariant_of-self : goal.invariant_of-self
invariant_of-self c = All-set IsLimited c.self.inside.list.items c.from.result c.add.new.self c.add.ensures.limited c.self.invariant

pub returns-clause-limited : goal.returns-clause-limited
returns-clause-limited c = All-set IsLimited c.self.inside.list.items c.from.result c.add.new.self c.add.ensures.limited c.self.invariant
