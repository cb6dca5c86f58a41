use Rattle.mt_slots.proofs.Placed.{put_there}
use Rattle.mt_slots.proofs.placement.place_row.Goals as goal

pub returns-clause-puts : goal.returns-clause-puts
returns-clause-puts c =
    (put_there c.args.page.now c.write_row.new.page c.set_head.new.page c.set_count.new.page c.args.i c.args.slots c.args.at _ (record { relation = c.args.relation; key = c.args.key.now; value = c.args.value.now }) c.requires.shaped c.requires.place c.row_bytes-count.ensures
    c.write_row.ensures c.set_head.ensures.rest c.set_head.ensures.points c.set_head.ensures.sized c.set_count.ensures.rest c.set_count.ensures.counted).puts

pub returns-clause-stays : goal.returns-clause-stays
returns-clause-stays c =
    (put_there c.args.page.now c.write_row.new.page c.set_head.new.page c.set_count.new.page c.args.i c.args.slots c.args.at _ (record { relation = c.args.relation; key = c.args.key.now; value = c.args.value.now }) c.requires.shaped c.requires.place c.row_bytes-count.ensures
    c.write_row.ensures c.set_head.ensures.rest c.set_head.ensures.points c.set_head.ensures.sized c.set_count.ensures.rest c.set_count.ensures.counted).stays
