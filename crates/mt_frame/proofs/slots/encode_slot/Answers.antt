use Rattle.std.proofs.Common.{rules}
use Rattle.mt_frame.proofs.slots.encode_slot.Goals as goal

pub returns : goal.returns
returns c = search rules
