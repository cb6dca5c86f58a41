use Rattle.std.proofs.Common.{rules}
use Rattle.mt_base.proofs.numbers.OpNo.new.Goals as goal

pub returns : goal.returns
returns c = search rules
