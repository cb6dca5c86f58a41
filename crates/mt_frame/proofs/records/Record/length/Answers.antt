use Rattle.std.proofs.Common.{rules}
use Rattle.mt_frame.proofs.records.Record.length.Goals as goal

pub returns-after-image : goal.returns-after-image
returns-after-image c = search rules
