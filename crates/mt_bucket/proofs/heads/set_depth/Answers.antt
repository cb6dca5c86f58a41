use Rattle.std.proofs.Common.{arith, inl}
use Rattle.mt_bucket.proofs.Moves.{entries_kept}
use Rattle.mt_bucket.proofs.heads.set_depth.Goals as goal

pub returns-clause-entries : goal.returns-clause-entries
returns-clause-entries c = entries_kept c.args.page.now c.put.new.page 0 1 c.requires.whole c.put.ensures.rest (inl (omega arith)) (omega arith)
