use Rattle.std.proofs.Common.{rules}
use Rattle.mt_space.proofs.space.Space.claim.Goals as goal

pub returns-then-self-pages-clause-cause : goal.returns-then-self-pages-clause-cause
returns-then-self-pages-clause-cause c = search rules
