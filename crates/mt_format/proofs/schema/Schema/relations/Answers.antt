use Rattle.mt_format.proofs.schema.Schema.relations.Goals as goal

pub returns : goal.returns
returns c = c.relations.ensures
