use Rattle.mt_frame.proofs.decoders.gate_of.Goals as goal

pub returns : goal.returns
returns c = c.byte_within.ensures.value
