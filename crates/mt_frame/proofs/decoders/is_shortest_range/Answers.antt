use Rattle.std.proofs.Common.{rules}
use Rattle.mt_frame.proofs.decoders.is_shortest_range.Goals as goal

pub returns-then-old-new : goal.returns-then-old-new
returns-then-old-new c = search rules

pub returns-else-old-new : goal.returns-else-old-new
returns-else-old-new c = search rules
