-- The names in the pages passed are gathered.
use Rattle.mt_index.specs.Answers.{InMaps}
use Rattle.mt_index.specs.Names.{GrowsTo}
use Rattle.mt_index.proofs.Bucketwise.{IsGathering}
use Rattle.mt_index.proofs.record_names.gather_chain.Given as goal

abbrev pub invariant-loop-step : goal.invariant-loop-step
invariant-loop-step g l = record {
  longer : GrowsTo l.fn.names.items l.names.items;
  gathers : InMaps (g.V.Pages.at_hand l.views) (g.V.Pages.total l.views) (λ pages m.
      IsGathering pages l.fn.bucket l.at l._step l.relation l.fn.names.items l.names.items);
}
