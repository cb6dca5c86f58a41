use Rattle.mt_explain.proofs.entries.write_effect.Goals as goal

pub returns-in-Inserted-clause-front : goal.returns-in-Inserted-clause-front
returns-in-Inserted-clause-front g c = rw c.in-Inserted.is c.write_valued.ensures.front

pub returns-in-Updated-clause-front : goal.returns-in-Updated-clause-front
returns-in-Updated-clause-front g c = rw c.in-Updated.is c.write_valued-in-Updated.ensures.front
