use Rattle.std.proofs.Common.{arith}
use Rattle.mt_alone.proofs.operation_steps.step_to_reply.Goals as goal

pub returns-clause-replied : goal.returns-clause-replied
returns-clause-replied g c = λ p calls op start few.
    let left = (c.loop-step.invariant.calling p calls op start few).1 in
    absurd (omega (arith, left, c.loop-step-test.false))
