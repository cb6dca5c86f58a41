use Rattle.std.proofs.Common.{subst}
use Rattle.mt_live.specs.Lives.{Lives, AreNumbered}
use Rattle.mt_live.proofs.Wells.{numbered_of}
use Rattle.mt_live.proofs.live.Live.begun.Goals as goal

pub returns-clause-numbered : goal.returns-clause-numbered
returns-clause-numbered c = subst (λ (x : Lives). AreNumbered c.self.inside.begun x.members) c.self.view_is (numbered_of _ _ _ _ _ c.self.invariant)
