use Rattle.std.proofs.Common.{rules}
use Rattle.mt_shared.proofs.shared.Shared.entered.Goals as goal

pub returns-in-Err-come_nearer-clause-entered : goal.returns-in-Err-come_nearer-clause-entered
returns-in-Err-come_nearer-clause-entered g c = search rules
