use Rattle.std.proofs.Common.{◌+◌, ◌*◌, ℕ, subst, arith}
use Rattle.mt_base.specs.Ranges.{Wrote}
use Rattle.mt_bucket.proofs.Moves.{one_more, pushed}
use Rattle.mt_bucket.proofs.Kept.{more_kept}
use Rattle.mt_bucket.proofs.entry_changes.push_cell.Goals as goal

pub returns-clause-pushed : goal.returns-clause-pushed
returns-clause-pushed c = pushed c.args.page.now c.set_count.new.page c.args.bytes.now c.requires.room
    (one_more c.args.page.now c.put.new.page c.set_count.new.page c.args.bytes.now c.requires.whole c.requires.cell c.requires.room
    (subst (λ (n : ℕ). Wrote (8 + 70 * n) c.args.bytes.now c.args.page.now c.put.new.page) c.count-count.ensures c.put.ensures)
    c.set_count.ensures.rest (omega arith))

pub returns-clause-kept : goal.returns-clause-kept
returns-clause-kept c = more_kept c.args.bytes.now c.args.page.now c.set_count.new.page c.requires.room
    (one_more c.args.page.now c.put.new.page c.set_count.new.page c.args.bytes.now c.requires.whole c.requires.cell c.requires.room
    (subst (λ (n : ℕ). Wrote (8 + 70 * n) c.args.bytes.now c.args.page.now c.put.new.page) c.count-count.ensures c.put.ensures)
    c.set_count.ensures.rest (omega arith))
