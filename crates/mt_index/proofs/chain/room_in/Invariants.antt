-- The pages passed are full.
use Rattle.mt_index.specs.Rule.{IsFull}
use Rattle.mt_index.specs.Answers.{InMaps}
use Rattle.mt_index.specs.Pages.{Passed, state_of}
use Rattle.mt_index.proofs.chain.room_in.Given as goal

abbrev pub invariant-loop-step : goal.invariant-loop-step
invariant-loop-step g l = InMaps (g.V.Pages.at_hand l.views) (g.V.Pages.total l.views) (λ pages m. Passed (IsFull (state_of pages)) pages l.key l.at l.step)
