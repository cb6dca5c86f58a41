use Rattle.mt_base.proofs.Touching.{first_found, none_found}
use Rattle.mt_base.proofs.edits.first_difference.Goals as goal

pub returns-then-at-end : goal.returns-then-at-end
returns-then-at-end c =
    first_found c.args.old.now c.args.new.now c.args.touched c.args.from c.difference_within-head.result c.max.result c.difference_within-at.result c.requires.touched c.difference_within-head.ensures.before c.if-head-touched.false
    c.difference_within-at.ensures c.max.ensures c.if-at-end.true

pub returns-else-at-end : goal.returns-else-at-end
returns-else-at-end c =
    none_found c.args.old.now c.args.new.now c.args.touched c.args.from c.difference_within-head.result c.max.result c.difference_within-at.result c.requires.touched c.difference_within-head.ensures.before c.if-head-touched.false
    c.difference_within-at.ensures c.max.ensures c.requires.there c.if-at-end.false
