use mathlib.Core.Logic.{∥∥₁_map}
use Rattle.mt_file.proofs.insertion.plan_put.Goals as goal

pub put-requires-clause-ready : goal.put-requires-clause-ready
put-requires-clause-ready g c = ∥∥₁_map c.requires.good (λ (pages, agrees, file, named). (pages, record { file = file; named = named; seen = λ p bytes kept there. agrees p bytes there }))
