use Rattle.mt_format.proofs.schema.Schema.device_len.Goals as goal

pub returns : goal.returns
returns c = c.device_bytes.ensures
