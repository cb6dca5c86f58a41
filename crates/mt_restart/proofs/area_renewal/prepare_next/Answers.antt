use Rattle.std.proofs.Common.{◌∙◌, ap}
use Rattle.mt_frame.specs.declared.slots.MasterSlot.{MasterSlot}
use Rattle.mt_log.specs.Masters.{area_end, area_start}
use Rattle.mt_steps.proofs.Listed.{if_ok_map}
use Rattle.mt_restart.proofs.area_renewal.prepare_next.Goals as goal

pub returns-clause-prepared : goal.returns-clause-prepared
returns-clause-prepared c = if_ok_map c.prepare_area.result
    (λ log first. record {
      place = c.named_by-area.result;
      start = c.named_by-area.ensures.start ∙ ap (λ (s : MasterSlot). area_start s) c.slot_after.ensures;
      end = c.named_by-area.ensures.end ∙ ap (λ (s : MasterSlot). area_end s) c.slot_after.ensures;
      first = first;
    })
    c.prepare_area.ensures.first
