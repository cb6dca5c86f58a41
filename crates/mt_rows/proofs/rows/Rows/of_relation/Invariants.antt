-- the rows so far that are of the relation
use Rattle.std.proofs.Common.{◌≡◌, take}
use Rattle.mt_rows.specs.Listing.{of_relation}
use Rattle.mt_rows.proofs.rows.Rows.of_relation.Given as goal

abbrev pub invariant-loop-row : goal.invariant-loop-row
invariant-loop-row l = l.list.items ≡ of_relation l.relation (take l.row-index l.self)
