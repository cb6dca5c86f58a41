use Rattle.std.proofs.Common.{sym, arith}
use Rattle.mt_base.proofs.Editing.{edited_end}
use Rattle.mt_base.proofs.edits.edits_of.Goals as goal

pub returns-clause-made : goal.returns-clause-made
returns-clause-made c = edited_end c.args.old.now c.args.new.now c.loop-last.edits.items c.loop-last.last (sym c.requires.touched.size) c.loop-last.invariant (omega arith)
