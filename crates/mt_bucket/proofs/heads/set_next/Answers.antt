use Rattle.std.proofs.Common.{arith, inr}
use Rattle.mt_bucket.proofs.Moves.{entries_kept}
use Rattle.mt_bucket.proofs.heads.set_next.Goals as goal

pub returns-clause-entries : goal.returns-clause-entries
returns-clause-entries c = entries_kept c.args.page.now c.put_u16.new.page 4 2 c.requires.whole c.put_u16.ensures.rest (inr (omega arith)) (omega arith)
