use Rattle.std.proofs.Common.{◌+◌, ℕ, length, subst}
use Rattle.mt_slots.specs.Parts.{HasPlace}
use Rattle.mt_slots.proofs.Listed.{inserted_list}
use Rattle.mt_slots.proofs.Settling.{opens_one}
use Rattle.mt_slots.proofs.record_changes.insert.Goals as goal

pub returns-clause-list : goal.returns-clause-list
returns-clause-list c = inserted_list c.args.page.now c.settle-touched.new.page c.walk-found.result.empty c.slots_after-slots.result (record { relation = c.args.relation; key = c.args.key.now; value = c.args.value.now }) c.slots_after-slots.ensures c.settle-touched.ensures.puts.sets

pub returns-clause-stays : goal.returns-clause-stays
returns-clause-stays c = λ n opens has.
    let one = opens_one c.args.page.now c.walk-found.result.empty n c.slots_after-slots.result opens c.slots_after-slots.ensures in
    c.settle-touched.ensures.stays (subst (λ (m : ℕ). HasPlace c.args.page.now c.walk-found.result.empty m (4 + length c.args.key.now + length c.args.value.now)) one has)
