use Rattle.std.proofs.Common.{subst, sym}
use Rattle.std.specs.Prelude.{OnOk}
use mathlib.Core.Logic.{∥∥₁_map}
use Rattle.mt_locked.specs.Turns.{HasTurned}
use Rattle.mt_shared.proofs.shared.Shared.turn_over.Goals as goal

pub returns-in-Ok-true-clause-turned : goal.returns-in-Ok-true-clause-turned
returns-in-Ok-true-clause-turned g c = let is = c.in-Ok-true.is in let test = c.in-Ok-true.field-0-test in
    subst (λ r. OnOk r (HasTurned g.D.Device c.args.frames g.J.Naming.base)) (sym c.let_on.ensures) (∥∥₁_map (c.rotate.ensures.did cc) (λ turn. turn.0))
