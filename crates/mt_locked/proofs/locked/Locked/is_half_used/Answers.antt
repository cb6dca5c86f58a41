use Rattle.mt_locked.proofs.Uses.{above_half, none_above}
use Rattle.mt_locked.proofs.locked.Locked.is_half_used.Goals as goal

pub returns-in-Some : goal.returns-in-Some
returns-in-Some g c = above_half c.args.self.now.kernel c.in-Some.log c.in-Some.ensures.kernel c.is_above_half.result c.is_above_half.ensures

pub returns-in-None : goal.returns-in-None
returns-in-None g c = none_above c.args.self.now.kernel c.in-None.ensures.kernel
