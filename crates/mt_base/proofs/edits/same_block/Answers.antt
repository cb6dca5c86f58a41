use Rattle.mt_base.proofs.Editing.{same_more}
use Rattle.mt_base.proofs.edits.same_block.Goals as goal

pub returns : goal.returns
returns c = λ t.
    let first = same_more c.args.old.now c.args.new.now c.args.at 8 8 (c.same_word.ensures c.if-not-same_word.false) (c.same_word-2.ensures c.if-not-same_word-2.false) in
    let front = same_more c.args.old.now c.args.new.now c.args.at 16 8 first (c.same_word-3.ensures c.if-not-same_word-3.false) in
    same_more c.args.old.now c.args.new.now c.args.at 24 8 front (c.same_word-4.ensures t)
