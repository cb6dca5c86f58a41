use Rattle.std.proofs.Common.{drop}
use Rattle.std.specs.List.{AllByRecursion}
use Rattle.mt_log.specs.Holds.{HasItsPage}
use Rattle.mt_log.proofs.scan_state.have_their_pages.Given as goal

-- all of them have theirs if and only if those that are left do
abbrev pub invariant-loop-entry : goal.invariant-loop-entry
invariant-loop-entry l = record {
  there : AllByRecursion (HasItsPage l.pages) (drop l.entry-index l.records) → AllByRecursion (HasItsPage l.pages) l.records;
  back : AllByRecursion (HasItsPage l.pages) l.records → AllByRecursion (HasItsPage l.pages) (drop l.entry-index l.records);
}
