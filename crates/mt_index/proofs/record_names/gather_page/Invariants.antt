use Rattle.std.proofs.Common.{◌≡◌, ◌++◌}
use Rattle.mt_bucket.specs.Page.{entries_from}
use Rattle.mt_index.specs.Names.{names_in}
use Rattle.mt_index.proofs.record_names.gather_page.Given as goal

abbrev pub invariant-loop-i : goal.invariant-loop-i
invariant-loop-i l = l.names.items ≡ l.fn.names.items ++ names_in l.relation (entries_from l.page 8 l.i)
