use Rattle.std.proofs.Common.{rules, sym, ◌∙◌}
use Rattle.mt_rows.proofs.Listings.{listed_as_is}
use Rattle.mt_model.proofs.tables.Base.rows.Goals as goal

pub returns-clause-rows : goal.returns-clause-rows
returns-clause-rows c = search rules

pub returns-clause-listed : goal.returns-clause-listed
returns-clause-listed c = c.as_slice.ensures.rows ∙ sym (listed_as_is c.args.self.now.rows (rw (← c.as_slice.ensures.rows) c.as_slice.ensures.ordered))
