-- The names of the buckets that the pointers so far name are gathered.
use Rattle.std.proofs.Common.{◌≡◌}
use Rattle.mt_index.specs.Names.{IsGatheredTo}
use Rattle.mt_index.proofs.record_names.plan_names.Given as goal

abbrev pub invariant-loop-pointer : goal.invariant-loop-pointer
invariant-loop-pointer g l = record {
  place : l.gathering.pointer ≡ l.pointer;
  so_far : IsGatheredTo (g.V.Pages.at_hand l.views) (g.V.Pages.total l.views) l.relation l.gathering;
}
