use mathlib.Core.Logic.{∥∥₁_map}
use Rattle.mt_shared.proofs.shared.Shared.rotate.Goals as goal

pub returns-in-Ok-true-clause-turned : goal.returns-in-Ok-true-clause-turned
returns-in-Ok-true-clause-turned g c = let is = c.in-Ok-true.is in let test = c.in-Ok-true.field-0-test in ∥∥₁_map (c.rotate-outcome.ensures.did cc) (λ turn. turn.0)
