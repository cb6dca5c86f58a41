use Rattle.std.proofs.Common.{rules}
use Rattle.mt_model.proofs.counters.Count.takes.Goals as goal

pub returns : goal.returns
returns c = search rules
