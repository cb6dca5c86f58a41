use Rattle.std.proofs.Common.{ap, sym, ◌∙◌}
use Rattle.mt_rows.specs.Listing.{of_relation}
use Rattle.mt_rows.proofs.Listings.{listed_as_is}
use Rattle.mt_model.specs.declared.operations.Reply.TheVariants.{Rows}
use Rattle.mt_model.proofs.tables.Base.scan.Goals as goal

pub returns-clause-reply : goal.returns-clause-reply
returns-clause-reply c =
    ap Rows (c.in_ok-rows.ensures.rows ∙ ap (of_relation c.args.relation) (sym (listed_as_is c.args.self.now.rows c.of_relation.ensures.ordered)))
