use Rattle.std.proofs.Common.{None, subst, ap, ◌∙◌, ℕ}
use Rattle.mt_slots.specs.Page.{count, slot, Sets}
use Rattle.mt_slots.proofs.Checked.{room_more}
use Rattle.mt_slots.proofs.Listed.{sets_list}
use Rattle.mt_slots.proofs.record_changes.remove.Goals as goal

pub returns-clause-list : goal.returns-clause-list
returns-clause-list c = sets_list c.args.page.now c.clear.new.page c.args.slot None c.requires.there
    (subst (λ (k : ℕ). Sets c.args.page.now c.clear.new.page k None (count c.args.page.now)) c.from-i.ensures c.clear.ensures.sets)

pub returns-clause-freed : goal.returns-clause-freed
returns-clause-freed c = λ r is.
    room_more c.args.page.now c.clear.new.page c.from-i.result r c.requires.shaped (ap (slot c.args.page.now) c.from-i.ensures ∙ is) c.clear.ensures.sets.counted c.clear.ensures.freed
