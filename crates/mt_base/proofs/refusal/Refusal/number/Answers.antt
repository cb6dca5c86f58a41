use Rattle.std.proofs.Common.{rules}
use Rattle.mt_base.proofs.refusal.Refusal.number.Goals as goal

pub returns-in-LogFull : goal.returns-in-LogFull
returns-in-LogFull c = search rules
