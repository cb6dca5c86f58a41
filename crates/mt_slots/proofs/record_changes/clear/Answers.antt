use Rattle.mt_slots.proofs.Pages.{cleared}
use Rattle.mt_slots.proofs.record_changes.clear.Goals as goal

pub returns-clause-shaped : goal.returns-clause-shaped
returns-clause-shaped c = (cleared c.args.page.now c.set_head.new.page c.args.i c.requires.shaped c.requires.there c.set_head.ensures.rest c.set_head.ensures.points c.set_head.ensures.sized).0

pub returns-clause-sets : goal.returns-clause-sets
returns-clause-sets c = (cleared c.args.page.now c.set_head.new.page c.args.i c.requires.shaped c.requires.there c.set_head.ensures.rest c.set_head.ensures.points c.set_head.ensures.sized).1

pub returns-clause-freed : goal.returns-clause-freed
returns-clause-freed c = (cleared c.args.page.now c.set_head.new.page c.args.i c.requires.shaped c.requires.there c.set_head.ensures.rest c.set_head.ensures.points c.set_head.ensures.sized).2
