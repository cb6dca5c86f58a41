use Rattle.mt_locked.proofs.Refusals.{sized_steps}
use Rattle.mt_shared.proofs.hold.Hold.run.Goals as goal

pub push-requires-clause-steps : goal.push-requires-clause-steps
push-requires-clause-steps g c = sized_steps c.args.op c.in-Ok.ensures.sized
