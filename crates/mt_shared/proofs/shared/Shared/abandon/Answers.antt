use Rattle.std.proofs.Common.{rules}
use Rattle.mt_shared.proofs.shared.Shared.abandon.Goals as goal

pub returns-clause-found : goal.returns-clause-found
returns-clause-found g c = ∣ (c.into_inner.result.book, c.into_device.ensures.leaves) ∣₁

pub returns-clause-there : goal.returns-clause-there
returns-clause-there g c = search rules
