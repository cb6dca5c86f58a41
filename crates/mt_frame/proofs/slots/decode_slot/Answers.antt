use Rattle.std.proofs.Common.{arith}
use Rattle.mt_frame.specs.Readers.{slot_at}
use Rattle.mt_frame.proofs.Rows.{fails_wrong}
use Rattle.mt_frame.proofs.SlotLaws.{slot_there, no_slot}
use Rattle.mt_frame.proofs.slots.decode_slot.Goals as goal

pub returns-in-Ok : goal.returns-in-Ok
returns-in-Ok c = slot_there c.args.bytes.now c.in-Ok.slot c.in-Ok._rest.now c.fits-bytes (omega arith) c.in-Ok.ensures.value

pub returns-in-Err : goal.returns-in-Err
returns-in-Err c = (omega arith, no_slot c.args.bytes.now (fails_wrong c.in-Err.field-0 (slot_at c.args.bytes.now) c.in-Err.ensures.value c.in-Err.ensures.no_memory))
